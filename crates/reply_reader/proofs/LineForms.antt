-- Lines and the words that they are made of.
use Rattle.std.proofs.Common.{◌≡◌, ◌≢◌, ℕ, suc, ◌+◌, ◌<◌, ◌≤◌, List, [], ◌∷◌, ◌++◌, length, get_or, take, drop, drop-cons, All, ◌⊎◌, inl, inr, refl, sym, ap, ◌∙◌, subst, arith, append_assoc, length-append}
use Rattle.std.specs.List.{AllByRecursion as ByRecursion}
use Rattle.std.proofs.lemmas.List.{append-nil, take-append-drop}
use Rattle.std.proofs.lemmas.List.Elements.{All-append, All-from_recursion, recursion_from_All, All-nil, All-cons}
use Rattle.std.proofs.lemmas.Grind.{flat_map-append}
use Rattle.reply_reader.specs.declared.places.Place.{Place}
use Rattle.reply_reader.specs.Places.{Begins, IsOneLine}
use Rattle.reply_reader.specs.Parts.{Part, IsTextOf, IsOne, IsPassed, IsRefusedIn, IsRead}
use Rattle.reply_reader.specs.Forms.{most_words, IsLineWord, spaced, AreWordsOf, IsLineForm}

-- the bytes have not this byte
abbrev pub HasNot : ℕ → List ℕ → Type 0
HasNot c bytes = All (λ b. b ≢ c) bytes

-- the bytes are none, or begin with this one
abbrev pub IsAfter : ℕ → List ℕ → Type 0
IsAfter c bytes = (bytes ≡ []) ⊎ ((t : List ℕ) × (bytes ≡ c ∷ t))

-- what stands before the first byte of a sort, and what stands from there on
pub front_until : (c : ℕ) (o i a b : List ℕ) → ByRecursion (λ x. x ≢ c) o → ByRecursion (λ x. x ≢ c) i → IsAfter c a → IsAfter c b
    → o ++ a ≡ i ++ b → (o ≡ i) × (a ≡ b)
front_until c [] [] a b ho hi fa fb e = (refl, e)
front_until c [] (y ∷ i) a b ho hi (inl none) fb e = let f : [] ≡ y ∷ (i ++ b) = sym none ∙ e in absurd cc
front_until c [] (y ∷ i) a b ho hi (inr w) fb e = let f : c ∷ w.0 ≡ y ∷ (i ++ b) = sym w.1 ∙ e in let g : y ≡ c = cc in absurd (hi.0 g)
front_until c (x ∷ o) [] a b ho hi fa (inl none) e = let f : [] ≡ x ∷ (o ++ a) = sym none ∙ sym e in absurd cc
front_until c (x ∷ o) [] a b ho hi fa (inr w) e = let f : c ∷ w.0 ≡ x ∷ (o ++ a) = sym w.1 ∙ sym e in let g : x ≡ c = cc in absurd (ho.0 g)
front_until c (x ∷ o) (y ∷ i) a b ho hi fa fb e =
    let head : x ≡ y = cc in
    let tail : o ++ a ≡ i ++ b = cc in
    let r : (o ≡ i) × (a ≡ b) = front_until c o i a b ho.1 hi.1 fa fb tail in
    (let s = r.0 in cc, r.1)

-- lines that can begin the same bytes are one
pub same_line : (l m u v : List ℕ) → IsOneLine l → IsOneLine m → l ++ 10 ∷ u ≡ m ++ 10 ∷ v → l ≡ m
same_line l m u v hl hm e =
    let r : (l ≡ m) × (10 ∷ u ≡ 10 ∷ v) =
    front_until 10 l m (10 ∷ u) (10 ∷ v) (recursion_from_All (λ x. x ≢ 10) l hl) (recursion_from_All (λ x. x ≢ 10) m hm) (inr (u, refl)) (inr (v, refl)) e in
    r.0

spaced_after : (words : List (List ℕ)) → IsAfter 32 (spaced words)
spaced_after [] = inl refl
spaced_after (w ∷ ws) = inr (w ++ spaced ws, refl)

-- words without spaces, whose line begins with other such words, begin with them
pub words_begin : (os is : List (List ℕ)) (rest : List ℕ) → ByRecursion (HasNot 32) os → ByRecursion (HasNot 32) is → IsAfter 32 rest
    → spaced os ≡ spaced is ++ rest → (ts : List (List ℕ)) × (os ≡ is ++ ts) × (spaced ts ≡ rest)
words_begin os [] rest ho hi f e = (os, refl, e)
words_begin [] (i ∷ is) rest ho hi f e = absurd cc
words_begin (o ∷ os) (i ∷ is) rest ho hi f e =
    let tail : o ++ spaced os ≡ (i ++ spaced is) ++ rest = cc in
    let behind : IsAfter 32 (spaced is ++ rest) = after_both is in
    let r : (o ≡ i) × (spaced os ≡ spaced is ++ rest) =
    front_until 32 o i (spaced os) (spaced is ++ rest) (recursion_from_All (λ x. x ≢ 32) o ho.0) (recursion_from_All (λ x. x ≢ 32) i hi.0)
    (spaced_after os) behind (tail ∙ append_assoc i (spaced is) rest) in
    let t : (ts : List (List ℕ)) × (os ≡ is ++ ts) × (spaced ts ≡ rest) = words_begin os is rest ho.1 hi.1 f r.1 in
    (t.0, ap (λ (w : List ℕ). w ∷ os) r.0 ∙ ap (λ (ws : List (List ℕ)). i ∷ ws) t.1, t.2)
  where
    after_both : (ws : List (List ℕ)) → IsAfter 32 (spaced ws ++ rest)
    after_both [] = f
    after_both (w ∷ ws) = inr (w ++ spaced ws ++ rest, refl)

-- words without spaces that make the same line are the same
pub same_words : (os is : List (List ℕ)) → All (HasNot 32) os → All (HasNot 32) is → spaced os ≡ spaced is → os ≡ is
same_words os is ho hi e =
    let t : (ts : List (List ℕ)) × (os ≡ is ++ ts) × (spaced ts ≡ []) =
    words_begin os is [] (recursion_from_All (HasNot 32) os ho) (recursion_from_All (HasNot 32) is hi) (inl refl) (e ∙ sym (append-nil (spaced is))) in
    none_more t.0 t.1 t.2
  where
    none_more : (ts : List (List ℕ)) → os ≡ is ++ ts → spaced ts ≡ [] → os ≡ is
    none_more [] e n = e ∙ append-nil is
    none_more (t ∷ ts) e n = absurd cc

-- a word of a line has no space and no line feed
pub HasNot-word : (c : ℕ) (w : List ℕ) → c ≤ 32 → IsLineWord w → HasNot c w
HasNot-word c w le h k d lt = λ e. let above = h k d lt in absurd (omega arith)

pub All-HasNot : (ws : List (List ℕ)) → All IsLineWord ws → All (HasNot 32) ws
All-HasNot ws h k d lt = HasNot-word 32 (get_or ws k d) (omega arith) (h k d lt)

-- the words so far, and the last one
pub words_done : (line rest : List ℕ) (ws : List (List ℕ)) → All (HasNot 32) ws → HasNot 32 rest → spaced ws ++ 32 ∷ rest ≡ 32 ∷ line
    → AreWordsOf line (ws ++ rest ∷ [])
words_done line rest ws hw hr e = record {
  joined = together;
  only = λ os clean few same. same_words (ws ++ rest ∷ []) os (All-append (HasNot 32) ws (rest ∷ []) hw (All-cons (HasNot 32) rest [] hr (All-nil (HasNot 32))))
      (All-HasNot os clean) (together ∙ sym same);
}
  where
    together : spaced (ws ++ rest ∷ []) ≡ 32 ∷ line
    together = flat_map-append (λ (w : List ℕ). 32 ∷ w) ws (rest ∷ []) ∙ ap (λ (t : List ℕ). spaced ws ++ 32 ∷ t) (append-nil rest) ∙ e

-- fourteen words, and the rest of the line
pub words_full : (line rest : List ℕ) (ws : List (List ℕ)) → All (HasNot 32) ws → length ws ≡ 14 → spaced ws ++ 32 ∷ rest ≡ 32 ∷ line
    → AreWordsOf line (ws ++ rest ∷ [])
words_full line rest ws hw long e = record {
  joined = flat_map-append (λ (w : List ℕ). 32 ∷ w) ws (rest ∷ []) ∙ ap (λ (t : List ℕ). spaced ws ++ 32 ∷ t) (append-nil rest) ∙ e;
  only = too_few;
}
  where
    too_few : (os : List (List ℕ)) → All IsLineWord os → length os ≤ most_words → spaced os ≡ 32 ∷ line → ws ++ rest ∷ [] ≡ os
    too_few os clean few same =
        let t : (ts : List (List ℕ)) × (os ≡ ws ++ ts) × (spaced ts ≡ 32 ∷ rest) =
        words_begin os ws (32 ∷ rest) (recursion_from_All (HasNot 32) os (All-HasNot os clean)) (recursion_from_All (HasNot 32) ws hw) (inr (rest, refl)) (same ∙ sym e) in
        more t.0 t.1 t.2
      where
        more : (ts : List (List ℕ)) → os ≡ ws ++ ts → spaced ts ≡ 32 ∷ rest → ws ++ rest ∷ [] ≡ os
        more [] a b = absurd cc
        more (t ∷ ts) a b = absurd (omega (arith, length-append ws (t ∷ ts), ap length a))

-- one more word is cut from the rest
pub cut_word : (line rest word after : List ℕ) (ws : List (List ℕ)) → spaced ws ++ 32 ∷ rest ≡ 32 ∷ line → rest ≡ word ++ 32 ∷ after
    → spaced (ws ++ word ∷ []) ++ 32 ∷ after ≡ 32 ∷ line
cut_word line rest word after ws e cut =
    ap (λ (l : List ℕ). l ++ 32 ∷ after) (flat_map-append (λ (w : List ℕ). 32 ∷ w) ws (word ∷ []))
    ∙ append_assoc (spaced ws) (32 ∷ word ++ []) (32 ∷ after)
    ∙ ap (λ (l : List ℕ). spaced ws ++ 32 ∷ l) (ap (λ (l : List ℕ). l ++ 32 ∷ after) (append-nil word) ∙ sym cut)
    ∙ e

-- a list of which the part up to a place has no such byte, and there is one
pub cut_at : (c : ℕ) (line : List ℕ) (i : ℕ) → i < length line → get_or line i 0 ≡ c → line ≡ take i line ++ c ∷ drop (i + 1) line
cut_at c line i lt is =
    let next : suc i ≡ i + 1 = omega arith in
    sym (take-append-drop i line)
    ∙ ap (λ (l : List ℕ). take i line ++ l) (drop-cons line i 0 lt)
    ∙ ap (λ (b : ℕ). take i line ++ b ∷ drop (suc i) line) is
    ∙ ap (λ (k : ℕ). take i line ++ c ∷ drop k line) next

module _ {X : Type 0} (p : Part X) (spelling : X → List (List ℕ)) (form : IsLineForm p spelling) where
  -- the line that spells a value
  pub record IsLineOf (x : X) (l : List ℕ) : Type 0 where
    pub one : IsOneLine l
    pub text : p.text x ≡ l ++ 10 ∷ []
    pub words : spaced (spelling x) ≡ 32 ∷ l

  clean_line : (ws : List (List ℕ)) → ByRecursion IsLineWord ws → ByRecursion (λ x. x ≢ 10) (spaced ws)
  clean_line [] h = tt
  clean_line (w ∷ ws) h = (
    λ e. absurd (omega arith),
    recursion_from_All (λ x. x ≢ 10) (w ++ spaced ws)
        (All-append (λ x. x ≢ 10) w (spaced ws) (HasNot-word 10 w (omega arith) h.0) (All-from_recursion (λ x. x ≢ 10) (spaced ws) (clean_line ws h.1))),
  )

  pub line_of : (x : X) → p.IsGood x → (l : List ℕ) × IsLineOf x l
  line_of x good = from (spelling x) (recursion_from_All IsLineWord (spelling x) (form.clean x good)) refl (form.spelled x good)
    where
      from : (ws : List (List ℕ)) → ByRecursion IsLineWord ws → spelling x ≡ ws → 32 ∷ p.text x ≡ spaced ws ++ 10 ∷ [] → (l : List ℕ) × IsLineOf x l
      from [] h is e = absurd cc
      from (w ∷ ws) h is e =
          let l : List ℕ = w ++ spaced ws in
          let text : p.text x ≡ l ++ 10 ∷ [] = cc in
          let one : ByRecursion (λ x. x ≢ 10) (32 ∷ l) = clean_line (w ∷ ws) h in
          (l, record { one = All-from_recursion (λ x. x ≢ 10) l one.1; text = text; words = ap spaced is })

  -- a line spells one value at most
  pub one_line : IsOne p
  one_line = record {
    same = λ x y u v gx gy e.
        let lx : (l : List ℕ) × IsLineOf x l = line_of x gx in
        let ly : (l : List ℕ) × IsLineOf y l = line_of y gy in
        let joined : lx.0 ++ 10 ∷ u ≡ ly.0 ++ 10 ∷ v =
        sym (append_assoc lx.0 (10 ∷ []) u) ∙ ap (λ (l : List ℕ). l ++ u) (sym lx.1.text) ∙ e ∙ ap (λ (l : List ℕ). l ++ v) ly.1.text ∙ append_assoc ly.0 (10 ∷ []) v in
        let line : lx.0 ≡ ly.0 = same_line lx.0 ly.0 u v lx.1.one ly.1.one joined in
        let words : spaced (spelling x) ≡ spaced (spelling y) = lx.1.words ∙ ap (λ (l : List ℕ). 32 ∷ l) line ∙ sym ly.1.words in
        form.same x y gx gy (same_words (spelling x) (spelling y) (All-HasNot (spelling x) (form.clean x gx)) (All-HasNot (spelling y) (form.clean y gy)) words);
  }

  begun_by_none : Begins (IsTextOf p) []
  begun_by_none = record { rest = p.text form.some.value; text = record { value = form.some.value; good = form.some.good; is = refl } }

  -- what a value spells stands at the front of a line, so its words are those of the line
  pub spelled_there : (x : X) → p.IsGood x → (line after more : List ℕ) (words : List (List ℕ)) → IsOneLine line → AreWordsOf line words
      → line ++ 10 ∷ after ≡ p.text x ++ more → words ≡ spelling x
  spelled_there x good line after more words one cut e =
      let l : (l : List ℕ) × IsLineOf x l = line_of x good in
      let same : line ≡ l.0 = same_line line l.0 after more one l.1.one
      (e ∙ ap (λ (t : List ℕ). t ++ more) l.1.text ∙ append_assoc l.0 (10 ∷ []) more) in
      cut.only (spelling x) (form.clean x good) (form.few x good) (l.1.words ∙ ap (λ (t : List ℕ). 32 ∷ t) (sym same))

  -- the line is none of the form
  pub refused_line : (bytes line after : List ℕ) (words : List (List ℕ)) (n : ℕ) → IsOneLine line → AreWordsOf line words → bytes ≡ line ++ 10 ∷ after
      → ((x : X) → p.IsGood x → spelling x ≡ words → ⊥) → IsRefusedIn (IsTextOf p) bytes n n
  refused_line bytes line after words n one cut there none = record {
    none = λ text more t e. none t.value t.good
        (sym (spelled_there t.value t.good line after more words one cut (sym there ∙ e ∙ ap (λ (s : List ℕ). s ++ more) (sym t.is))));
    place = 1;
    stop = record {
      lines = [];
      after = bytes;
      cut = refl;
      each = All-nil IsOneLine;
      number = refl;
      begun = begun_by_none;
      stop = inl (record {
        line = line;
        rest = after;
        next = there;
        one = one;
        wrong = λ (g : Begins (IsTextOf p) (line ++ 10 ∷ [])). none g.text.value g.text.good
            (sym (spelled_there g.text.value g.text.good line g.rest [] words one cut
            (sym (append_assoc line (10 ∷ []) g.rest) ∙ sym g.text.is ∙ sym (append-nil (p.text g.text.value)))));
      });
    };
    number = refl;
  }

  -- there is no whole line
  pub refused_end : (bytes : List ℕ) (n : ℕ) → IsOneLine bytes → IsRefusedIn (IsTextOf p) bytes n n
  refused_end bytes n one = record {
    none = λ text more t e.
        let l : (l : List ℕ) × IsLineOf t.value l = line_of t.value t.good in
        let cells : bytes ≡ l.0 ++ 10 ∷ more = e ∙ ap (λ (s : List ℕ). s ++ more) (sym t.is ∙ l.1.text) ∙ append_assoc l.0 (10 ∷ []) more in
        feed_inside l.0 more (recursion_from_All (λ x. x ≢ 10) (l.0 ++ 10 ∷ more) (subst IsOneLine cells one));
    place = 1;
    stop = record {
      lines = [];
      after = bytes;
      cut = refl;
      each = All-nil IsOneLine;
      number = refl;
      begun = begun_by_none;
      stop = inr one;
    };
    number = refl;
  }
    where
      feed_inside : (l more : List ℕ) → ByRecursion (λ x. x ≢ 10) (l ++ 10 ∷ more) → ⊥
      feed_inside [] more h = h.0 refl
      feed_inside (x ∷ l) more h = feed_inside l more h.1

  -- the value of the words of the line was read
  pub read_of_line : (bytes line : List ℕ) (words : List (List ℕ)) (old new : Place) (x : X) → AreWordsOf line words
      → IsPassed (drop old.at bytes) old.line (line ++ 10 ∷ []) (drop new.at bytes) new.line
      → p.IsGood x → spelling x ≡ words → IsRead p bytes old new x
  read_of_line bytes line words old new x cut passed good is =
      let P : List ℕ → Type 0 = λ (t : List ℕ). IsPassed (drop old.at bytes) old.line t (drop new.at bytes) new.line in
      let l : (l : List ℕ) × IsLineOf x l = line_of x good in
      let same : 32 ∷ l.0 ≡ 32 ∷ line = sym l.1.words ∙ ap spaced is ∙ cut.joined in
      let line_is : l.0 ≡ line = cc in
      record { good = good; passed = subst P (sym (l.1.text ∙ ap (λ (t : List ℕ). t ++ 10 ∷ []) line_is)) passed }
