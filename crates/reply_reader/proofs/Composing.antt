-- How the answers for parts make those for what the parts make.
use Rattle.std.proofs.Common.{get_or, take, drop, drop-cons, ◌≡◌, ℕ, suc, ◌+◌, ◌-◌, ◌<◌, ◌≤◌, List, [], ◌∷◌, ◌++◌, length, All, Err, ◌⊎◌, inl, inr, refl, sym, ap, ◌∙◌, subst, arith, append_assoc, length-append, replicate}
use Rattle.std.specs.List.{flat_map, AllByRecursion as ByRecursion}
use Rattle.std.proofs.lemmas.List.{append_cancel_left, append-nil, take-append-drop, drop-drop, length-replicate}
use Rattle.std.proofs.lemmas.Bool.{cases_lt}
use Rattle.std.proofs.lemmas.List.Elements.{All-append, All-from_recursion, recursion_from_All, All-replicate, All-nil, All-cons}
use Rattle.std.proofs.lemmas.Grind.{flat_map-append}
use Rattle.reply_reader.specs.declared.places.Place.{Place}
use Rattle.reply_reader.specs.declared.readings.ReadReplies.{ReadReplies}
use Rattle.reply_reader.specs.declared.readings.ReadReplies.TheVariants.{Refused, NoMemory}
use Rattle.reply_reader.specs.Places.{Begins, IsOneLine, lines_text, IsWrongLine, StopsAt}
use Rattle.reply_reader.specs.Parts.{Part, IsTextOf, IsOne, followed_by, counted, IsPassed, IsRefusedIn, IsRead, Tells}

-- of two fronts of a list, one begins the other
pub either_begins : (a b c d : List ℕ) → a ++ b ≡ c ++ d → ((e : List ℕ) × (a ≡ c ++ e)) ⊎ ((e : List ℕ) × (c ≡ a ++ e))
either_begins [] b c d h = inr (c, refl)
either_begins (x ∷ a) b [] d h = inl (x ∷ a, refl)
either_begins (x ∷ a) b (y ∷ c) d h =
    let same : x ≡ y = cc in
    let tails : a ++ b ≡ c ++ d = cc in
    elim (either_begins a b c d tails) [
      | inl w ↦ inl (w.0, let e = w.1 in cc)
      | inr w ↦ inr (w.0, let e = w.1 in cc)
    ]

-- passing two texts one after the other
pub passed_both : (from mid to : List ℕ) (line next last : ℕ) (s t : List ℕ) → IsPassed from line s mid next → IsPassed mid next t to last → IsPassed from line (s ++ t) to last
passed_both from mid to line next last s t p q = record {
  cut = p.cut ∙ ap (λ (r : List ℕ). s ++ r) q.cut ∙ sym (append_assoc s t to);
  lines = p.lines ++ q.lines;
  whole = ap (λ (r : List ℕ). r ++ t) p.whole ∙ ap (λ (r : List ℕ). lines_text p.lines ++ r) q.whole ∙ sym (flat_map-append (λ l. l ++ 10 ∷ []) p.lines q.lines);
  each = All-append IsOneLine p.lines q.lines p.each q.each;
  number = let a = p.number in let b = q.number in omega (arith, length-append p.lines q.lines);
}

-- passing nothing
pub passed_none : (from : List ℕ) (line : ℕ) → IsPassed from line [] from line
passed_none from line = record { cut = refl; lines = []; whole = refl; each = All-nil IsOneLine; number = omega arith }

-- what begins a text of the one language begins one of the other
abbrev BeginsToo : (List ℕ → Type 0) → (List ℕ → Type 0) → Type 0
BeginsToo L M = (bytes : List ℕ) → Begins L bytes → Begins M bytes

-- A refusal in the one language is one in the other: what begins a text of the first begins one of the
-- second, and a text of the second begins with one of the first.
refused_front : (A L : List ℕ → Type 0) → BeginsToo A L
    → ((w : List ℕ) → L w → (s : List ℕ) × (t : List ℕ) × A s × (w ≡ s ++ t))
    → (bytes : List ℕ) (line n : ℕ) → IsRefusedIn A bytes line n → IsRefusedIn L bytes line n
refused_front A L joins splits bytes line n r = record {
  none = no_text;
  place = r.place;
  stop = record {
    lines = r.stop.lines;
    after = r.stop.after;
    cut = r.stop.cut;
    each = r.stop.each;
    number = r.stop.number;
    begun = joins (lines_text r.stop.lines) r.stop.begun;
    stop = elim r.stop.stop [ inl w ↦ inl (wrong_line w) | inr o ↦ inr o ];
  };
  number = r.number;
}
  where
    no_text : (text more : List ℕ) → L text → bytes ≡ text ++ more → ⊥
    no_text text more l e =
        let c : (s : List ℕ) × (t : List ℕ) × A s × (text ≡ s ++ t) = splits text l in
        r.none c.0 (c.1 ++ more) c.2 (e ∙ ap (λ (x : List ℕ). x ++ more) c.3 ∙ append_assoc c.0 c.1 more)

    before : List ℕ
    before = lines_text r.stop.lines

    wrong_line : IsWrongLine A (lines_text r.stop.lines) r.stop.after → IsWrongLine L (lines_text r.stop.lines) r.stop.after
    wrong_line w = record {
      line = w.line;
      rest = w.rest;
      next = w.next;
      one = w.one;
      wrong = λ (g : Begins L (lines_text r.stop.lines ++ w.line ++ 10 ∷ [])).
          let front : List ℕ = lines_text r.stop.lines ++ w.line ++ 10 ∷ [] in
          let c : (s : List ℕ) × (t : List ℕ) × A s × (front ++ g.rest ≡ s ++ t) = splits (front ++ g.rest) g.text in
          elim (either_begins front g.rest c.0 c.1 c.3) [
            | inl u ↦
                r.none c.0 (u.0 ++ w.rest) c.2
                (r.stop.cut ∙ ap (λ (x : List ℕ). lines_text r.stop.lines ++ x) w.next
                ∙ sym (append_assoc (lines_text r.stop.lines) w.line (10 ∷ w.rest))
                ∙ sym (append_assoc (lines_text r.stop.lines ++ w.line) (10 ∷ []) w.rest)
                ∙ ap (λ (x : List ℕ). x ++ w.rest) u.1 ∙ append_assoc c.0 u.0 w.rest)
            | inr u ↦ w.wrong (record { rest = u.0; text = subst A u.1 c.2 })
          ];
    }

-- passing one line
pub passed_line : (from line rest : List ℕ) (number : ℕ) → IsOneLine line → from ≡ line ++ 10 ∷ rest → IsPassed from number (line ++ 10 ∷ []) rest (number + 1)
passed_line from line rest number one cut = record {
  cut = cut ∙ sym (append_assoc line (10 ∷ []) rest);
  lines = line ∷ [];
  whole = sym (append-nil (line ++ 10 ∷ []));
  each = All-cons IsOneLine line [] one (All-nil IsOneLine);
  number = refl;
}

-- the line that ends with the line feed at place n after a place
pub passed_cut : (bytes : List ℕ) (at n number : ℕ) (from : List ℕ) → from ≡ drop at bytes → n < length from → get_or from n 0 ≡ 10 → IsOneLine (take n from)
    → IsPassed (drop at bytes) number (take n from ++ 10 ∷ []) (drop (at + n + 1) bytes) (number + 1)
passed_cut bytes at n number from is lt feed one =
    let later : drop (n + 1) (drop at bytes) ≡ drop (at + (n + 1)) bytes = drop-drop (n + 1) at bytes in
    let places : at + n + 1 ≡ at + (n + 1) = omega arith in
    let next : suc n ≡ n + 1 = omega arith in
    let after : drop (n + 1) from ≡ drop (at + n + 1) bytes =
    ap (λ (l : List ℕ). drop (n + 1) l) is ∙ later ∙ sym (ap (λ (k : ℕ). drop k bytes) places) in
    let cells : from ≡ take n from ++ 10 ∷ drop (at + n + 1) bytes =
    sym (take-append-drop n from)
    ∙ ap (λ (l : List ℕ). take n from ++ l) (drop-cons from n 0 lt ∙ ap (λ (b : ℕ). b ∷ drop (suc n) from) feed)
    ∙ ap (λ (k : ℕ). take n from ++ 10 ∷ drop k from) next
    ∙ ap (λ (l : List ℕ). take n from ++ 10 ∷ l) after in
    passed_line (drop at bytes) (take n from) (drop (at + n + 1) bytes) number one (sym is ∙ cells)

-- A refusal in what may follow a text that was passed is one in the whole: each text of the whole that
-- can stand there begins with that text, and goes on with one of those that may follow.
refused_behind : (L M : List ℕ → Type 0) (s : List ℕ) (bytes after : List ℕ) (line next n : ℕ)
    → ((t : List ℕ) → M t → L (s ++ t))
    → ((w u v : List ℕ) → L w → w ++ u ≡ s ++ v → (t : List ℕ) × M t × (w ≡ s ++ t))
    → IsPassed bytes line s after next
    → IsRefusedIn M after next n → IsRefusedIn L bytes line n
refused_behind L M s bytes after line next n joins splits passed r = record {
  none = no_text;
  place = length passed.lines + r.place;
  stop = record {
    lines = passed.lines ++ r.stop.lines;
    after = r.stop.after;
    cut = passed.cut ∙ ap (λ (t : List ℕ). s ++ t) r.stop.cut ∙ sym (append_assoc s (lines_text r.stop.lines) r.stop.after)
        ∙ ap (λ (t : List ℕ). t ++ r.stop.after) both;
    each = All-append IsOneLine passed.lines r.stop.lines passed.each r.stop.each;
    number = let a = r.stop.number in omega (arith, length-append passed.lines r.stop.lines);
    begun = subst (Begins L) both (joined r.stop.begun);
    stop = elim r.stop.stop [ inl w ↦ inl (wrong_line w) | inr o ↦ inr o ];
  };
  number = let a = passed.number in let b = r.number in omega arith;
}
  where
    both : s ++ lines_text r.stop.lines ≡ lines_text (passed.lines ++ r.stop.lines)
    both = ap (λ (t : List ℕ). t ++ lines_text r.stop.lines) passed.whole ∙ sym (flat_map-append (λ l. l ++ 10 ∷ []) passed.lines r.stop.lines)

    joined : Begins M (lines_text r.stop.lines) → Begins L (s ++ lines_text r.stop.lines)
    joined g = record { rest = g.rest; text = subst L (sym (append_assoc s (lines_text r.stop.lines) g.rest)) (joins (lines_text r.stop.lines ++ g.rest) g.text) }

    no_text : (text more : List ℕ) → L text → bytes ≡ text ++ more → ⊥
    no_text text more l e =
        let c : (t : List ℕ) × M t × (text ≡ s ++ t) = splits text more after l (sym e ∙ passed.cut) in
        let there : s ++ after ≡ s ++ (c.0 ++ more) =
        sym passed.cut ∙ e ∙ ap (λ (x : List ℕ). x ++ more) c.2 ∙ append_assoc s c.0 more in
        r.none c.0 more c.1 (append_cancel_left s after (c.0 ++ more) there)

    wrong_line : IsWrongLine M (lines_text r.stop.lines) r.stop.after → IsWrongLine L (lines_text (passed.lines ++ r.stop.lines)) r.stop.after
    wrong_line w = record {
      line = w.line;
      rest = w.rest;
      next = w.next;
      one = w.one;
      wrong = λ (g : Begins L (lines_text (passed.lines ++ r.stop.lines) ++ w.line ++ 10 ∷ [])).
          let front : List ℕ = lines_text r.stop.lines ++ w.line ++ 10 ∷ [] in
          let regrouped : lines_text (passed.lines ++ r.stop.lines) ++ w.line ++ 10 ∷ [] ++ g.rest ≡ s ++ (front ++ g.rest) =
          ap (λ (x : List ℕ). x ++ w.line ++ 10 ∷ [] ++ g.rest) (sym both)
          ∙ simp append_assoc in
          let c : (t : List ℕ) × M t × (lines_text (passed.lines ++ r.stop.lines) ++ w.line ++ 10 ∷ [] ++ g.rest ≡ s ++ t) =
          splits (lines_text (passed.lines ++ r.stop.lines) ++ w.line ++ 10 ∷ [] ++ g.rest) [] (front ++ g.rest) g.text (append-nil _ ∙ regrouped) in
          let same : c.0 ≡ front ++ g.rest = append_cancel_left s c.0 (front ++ g.rest) (sym c.2 ∙ regrouped) in
          w.wrong (record { rest = g.rest; text = subst M same c.1 });
    }

module _ {X Y : Type 0} (p : Part X) (q : X → Part Y) where
  -- a refusal of the part in front refuses the two, where each value in front has one behind it
  pub refused_first : ((x : X) → p.IsGood x → (y : Y) × (q x).IsGood y) → (bytes : List ℕ) (line n : ℕ)
      → IsRefusedIn (IsTextOf p) bytes line n → IsRefusedIn (IsTextOf (followed_by p q)) bytes line n
  refused_first more bytes line n r =
      refused_front (IsTextOf p) (IsTextOf (followed_by p q)) joins
      (λ w t. (p.text t.value.0, (q t.value.0).text t.value.1, record { value = t.value.0; good = t.good.0; is = refl }, sym t.is))
      bytes line n r
    where
      joins : (front : List ℕ) → Begins (IsTextOf p) front → Begins (IsTextOf (followed_by p q)) front
      joins front g =
          let x : X = g.text.value in
          let m : (y : Y) × (q x).IsGood y = more x g.text.good in
          record {
            rest = g.rest ++ (q x).text m.0;
            text = record {
              value = (x, m.0);
              good = (g.text.good, m.1);
              is = ap (λ (s : List ℕ). s ++ (q x).text m.0) g.text.is ∙ append_assoc front g.rest ((q x).text m.0);
            };
          }

  -- what is spelled by two parts is determined, where it is by each
  pub one_followed : IsOne p → ((x : X) → p.IsGood x → IsOne (q x)) → IsOne (followed_by p q)
  one_followed o os = record {
    same = λ v w s t gv gw e.
        let first : v.0 ≡ w.0 = o.same v.0 w.0 ((q v.0).text v.1 ++ s) ((q w.0).text w.1 ++ t) gv.0 gw.0
        (sym (append_assoc (p.text v.0) ((q v.0).text v.1) s) ∙ e ∙ append_assoc (p.text w.0) ((q w.0).text w.1) t) in
        one_behind o os v.0 w.0 first v.1 w.1 s t gv gw e;
  }
    where
      one_behind : IsOne p → ((x : X) → p.IsGood x → IsOne (q x)) → (a b : X) → a ≡ b → (c d : Y) (s t : List ℕ)
          → p.IsGood a × (q a).IsGood c → p.IsGood b × (q b).IsGood d
          → (p.text a ++ (q a).text c) ++ s ≡ (p.text b ++ (q b).text d) ++ t
          → let v : X × Y = (a, c) in let w : X × Y = (b, d) in v ≡ w
      one_behind o os a b ab c d s t =
          let P : X → Type 0 = λ (z : X).
          p.IsGood a × (q a).IsGood c → p.IsGood z × (q z).IsGood d
          → (p.text a ++ (q a).text c) ++ s ≡ (p.text z ++ (q z).text d) ++ t
          → (let v : X × Y = (a, c) in let w : X × Y = (z, d) in v ≡ w) in
          subst P ab (λ gv gw e.
          let tails : (q a).text c ++ s ≡ (q a).text d ++ t =
          append_cancel_left (p.text a) ((q a).text c ++ s) ((q a).text d ++ t)
          (sym (append_assoc (p.text a) ((q a).text c) s) ∙ e ∙ append_assoc (p.text a) ((q a).text d) t) in
          let second : c ≡ d = (os a gv.0).same c d s t gv.1 gw.1 tails in
          ap (λ (z : Y). let v : X × Y = (a, z) in v) second)

  -- a refusal of the part behind, at the place after the part in front, refuses the two
  pub refused_second : IsOne p → (x : X) → p.IsGood x → (bytes after : List ℕ) (line next n : ℕ)
      → IsPassed bytes line (p.text x) after next
      → IsRefusedIn (IsTextOf (q x)) after next n → IsRefusedIn (IsTextOf (followed_by p q)) bytes line n
  refused_second o x good bytes after line next n passed r =
      refused_behind (IsTextOf (followed_by p q)) (IsTextOf (q x)) (p.text x) bytes after line next n begun begins passed r
    where
      begun : (t : List ℕ) → IsTextOf (q x) t → IsTextOf (followed_by p q) (p.text x ++ t)
      begun t w = record {
        value = (x, w.value);
        good = (good, w.good);
        is = ap (λ (s : List ℕ). p.text x ++ s) w.is;
      }

      begins : (w u v : List ℕ) → IsTextOf (followed_by p q) w → w ++ u ≡ p.text x ++ v → (t : List ℕ) × IsTextOf (q x) t × (w ≡ p.text x ++ t)
      begins w u v t e =
          let a : X = t.value.0 in
          let c : Y = t.value.1 in
          let same : a ≡ x = o.same a x ((q a).text c ++ u) v t.good.0 good
          (sym (append_assoc (p.text a) ((q a).text c) u) ∙ ap (λ (z : List ℕ). z ++ u) t.is ∙ e) in
          let P : X → Type 0 = λ (z : X). (t : List ℕ) × IsTextOf (q z) t × (w ≡ p.text z ++ t) in
          let Q : P a = ((q a).text c, record { value = c; good = t.good.1; is = refl }, sym t.is) in
          subst P same Q

  -- reading the two, one after the other
  pub read_both : (bytes : List ℕ) (old mid new : Place) (x : X) (y : Y)
      → IsRead p bytes old mid x → IsRead (q x) bytes mid new y → IsRead (followed_by p q) bytes old new (x, y)
  read_both bytes old mid new x y r s = record {
    good = (r.good, s.good);
    passed = passed_both (drop old.at bytes) (drop mid.at bytes) (drop new.at bytes) old.line mid.line new.line (p.text x) ((q x).text y) r.passed s.passed;
  }

-- The value is made of one of another part.
pub record IsMadeFrom {X Y : Type 0} (q : Part Y) (from : Y → X) (x : X) : Type 0 where
  pub inner : Y
  pub good : q.IsGood inner
  pub made : from inner ≡ x

-- Two parts that spell the same: each value of the one is made of one of the other.
pub record IsSpelledAs {X Y : Type 0} (p : Part X) (q : Part Y) : Type 0 where
  pub from : Y → X
  pub good : (y : Y) → q.IsGood y → p.IsGood (from y)
  pub text : (y : Y) → q.IsGood y → p.text (from y) ≡ q.text y
  pub back : (x : X) → p.IsGood x → IsMadeFrom q from x

module _ {X Y : Type 0} (p : Part X) (q : Part Y) (w : IsSpelledAs p q) where
  inner_text : (x : X) (g : p.IsGood x) → q.text (w.back x g).inner ≡ p.text x
  inner_text x g = sym (w.text (w.back x g).inner (w.back x g).good) ∙ ap p.text (w.back x g).made

  pub refused_as : (bytes : List ℕ) (line n : ℕ) → IsRefusedIn (IsTextOf q) bytes line n → IsRefusedIn (IsTextOf p) bytes line n
  refused_as bytes line n r =
      refused_front (IsTextOf q) (IsTextOf p)
      (λ front g. record {
        rest = g.rest;
        text = record { value = w.from g.text.value; good = w.good g.text.value g.text.good; is = w.text g.text.value g.text.good ∙ g.text.is };
      })
      (λ text t. (text, [], record { value = (w.back t.value t.good).inner; good = (w.back t.value t.good).good; is = inner_text t.value t.good ∙ t.is }, sym (append-nil text)))
      bytes line n r

  pub read_as : (bytes : List ℕ) (old new : Place) (y : Y) → IsRead q bytes old new y → IsRead p bytes old new (w.from y)
  read_as bytes old new y r =
      let P : List ℕ → Type 0 = λ (t : List ℕ). IsPassed (drop old.at bytes) old.line t (drop new.at bytes) new.line in
      record { good = w.good y r.good; passed = subst P (sym (w.text y r.good)) r.passed }

  pub one_as : IsOne q → IsOne p
  one_as o = record {
    same = λ x z s t gx gz e.
        let there : (w.back x gx).inner ≡ (w.back z gz).inner = o.same (w.back x gx).inner (w.back z gz).inner s t (w.back x gx).good (w.back z gz).good
        (ap (λ (l : List ℕ). l ++ s) (inner_text x gx) ∙ e ∙ ap (λ (l : List ℕ). l ++ t) (sym (inner_text z gz))) in
        sym (w.back x gx).made ∙ ap w.from there ∙ (w.back z gz).made;
  }

module _ {X : Type 0} (p : Part X) (o : IsOne p) where
  -- of two lists whose texts can begin the same bytes the shorter one begins the other
  pub front_of_list : (xs ys : List X) (u v : List ℕ) → ByRecursion p.IsGood xs → ByRecursion p.IsGood ys → length xs ≤ length ys
      → flat_map p.text xs ++ u ≡ flat_map p.text ys ++ v → (zs : List X) × (ys ≡ xs ++ zs)
  front_of_list [] ys u v gx gy le e = (ys, refl)
  front_of_list (x ∷ xs) [] u v gx gy le e = absurd (omega arith)
  front_of_list (x ∷ xs) (y ∷ ys) u v gx gy le e =
      let first : x ≡ y = o.same x y (flat_map p.text xs ++ u) (flat_map p.text ys ++ v) gx.0 gy.0
      (sym (append_assoc (p.text x) (flat_map p.text xs) u) ∙ e ∙ append_assoc (p.text y) (flat_map p.text ys) v) in
      let tails : flat_map p.text xs ++ u ≡ flat_map p.text ys ++ v =
      append_cancel_left (p.text x) (flat_map p.text xs ++ u) (flat_map p.text ys ++ v)
      (sym (append_assoc (p.text x) (flat_map p.text xs) u) ∙ e ∙ append_assoc (p.text y) (flat_map p.text ys) v
      ∙ ap (λ (z : X). p.text z ++ (flat_map p.text ys ++ v)) (sym first)) in
      let rest : (zs : List X) × (ys ≡ xs ++ zs) = front_of_list xs ys u v gx.1 gy.1 (omega arith) tails in
      (rest.0, ap (λ (z : X). z ∷ ys) (sym first) ∙ ap (λ (l : List X). x ∷ l) rest.1)

  -- lists of the same length whose texts can begin the same bytes are one
  pub one_counted : (n : ℕ) → IsOne (counted n p)
  one_counted n = record { same = λ xs ys u v gx gy e. same_list xs ys u v gx gy e }
    where
      none_more : (xs ys zs : List X) → ys ≡ xs ++ zs → length xs ≡ length ys → xs ≡ ys
      none_more xs ys [] e l = sym (append-nil xs) ∙ sym e
      none_more xs ys (z ∷ zs) e l = absurd (omega (arith, length-append xs (z ∷ zs), ap length e))

      same_list : (xs ys : List X) (u v : List ℕ) → (length xs ≡ n) × All p.IsGood xs → (length ys ≡ n) × All p.IsGood ys
          → flat_map p.text xs ++ u ≡ flat_map p.text ys ++ v → xs ≡ ys
      same_list xs ys u v gx gy e =
          let long : length xs ≤ length ys = let a = gx.0 in let b = gy.0 in omega arith in
          let f : (zs : List X) × (ys ≡ xs ++ zs) = front_of_list xs ys u v (recursion_from_All p.IsGood xs gx.1) (recursion_from_All p.IsGood ys gy.1) long e in
          none_more xs ys f.0 f.1 (gx.0 ∙ sym gy.0)

  -- after some of the list, the next one that is refused refuses the whole
  pub refused_next : (n : ℕ) (xs : List X) → length xs < n → All p.IsGood xs → (bytes after : List ℕ) (line next m : ℕ)
      → IsPassed bytes line (flat_map p.text xs) after next
      → IsRefusedIn (IsTextOf p) after next m → IsRefusedIn (IsTextOf (counted n p)) bytes line m
  refused_next n xs lt good bytes after line next m passed r =
      refused_behind (IsTextOf (counted n p)) (IsTextOf (counted (n - length xs) p)) (flat_map p.text xs) bytes after line next m
      joins splits passed (refused_front (IsTextOf p) (IsTextOf (counted (n - length xs) p)) begins fronts after next m r)
    where
      joins : (t : List ℕ) → IsTextOf (counted (n - length xs) p) t → IsTextOf (counted n p) (flat_map p.text xs ++ t)
      joins t w = record {
        value = xs ++ w.value;
        good = (let l = w.good.0 in omega (arith, length-append xs w.value), All-append p.IsGood xs w.value good w.good.1);
        is = flat_map-append p.text xs w.value ∙ ap (λ (s : List ℕ). flat_map p.text xs ++ s) w.is;
      }

      behind : (w : List ℕ) (ys zs : List X) → (length ys ≡ n) × All p.IsGood ys → flat_map p.text ys ≡ w → ys ≡ xs ++ zs
          → (t : List ℕ) × IsTextOf (counted (n - length xs) p) t × (w ≡ flat_map p.text xs ++ t)
      behind w ys zs g is e = (
        flat_map p.text zs,
        record {
          value = zs;
          good = (let l = g.0 in omega (arith, length-append xs zs, ap length e), All_behind xs zs (subst (All p.IsGood) e g.1));
          is = refl;
        },
        sym is ∙ ap (flat_map p.text) e ∙ flat_map-append p.text xs zs,
      )
        where
          All_behind : (ks bs : List X) → All p.IsGood (ks ++ bs) → All p.IsGood bs
          All_behind ks bs h = All-from_recursion p.IsGood bs (back ks bs (recursion_from_All p.IsGood (ks ++ bs) h))
            where
              back : (ks bs : List X) → ByRecursion p.IsGood (ks ++ bs) → ByRecursion p.IsGood bs
              back [] bs h = h
              back (a ∷ ks) bs h = back ks bs h.1

      splits : (w u v : List ℕ) → IsTextOf (counted n p) w → w ++ u ≡ flat_map p.text xs ++ v
          → (t : List ℕ) × IsTextOf (counted (n - length xs) p) t × (w ≡ flat_map p.text xs ++ t)
      splits w u v t e =
          let long : length xs ≤ length t.value = let a = t.good.0 in omega arith in
          let f : (zs : List X) × (t.value ≡ xs ++ zs) =
          front_of_list xs t.value v u (recursion_from_All p.IsGood xs good) (recursion_from_All p.IsGood t.value t.good.1) long
          (sym e ∙ ap (λ (l : List ℕ). l ++ u) (sym t.is)) in
          behind w t.value f.0 t.good t.is f.1

      fronts : (w : List ℕ) → IsTextOf (counted (n - length xs) p) w → (s : List ℕ) × (t : List ℕ) × IsTextOf p s × (w ≡ s ++ t)
      fronts w t = first t.value t.good t.is
        where
          first : (zs : List X) → (length zs ≡ n - length xs) × All p.IsGood zs → flat_map p.text zs ≡ w
              → (s : List ℕ) × (t : List ℕ) × IsTextOf p s × (w ≡ s ++ t)
          first [] g is = let l = g.0 in absurd (omega arith)
          first (z ∷ zs) g is =
              (p.text z, flat_map p.text zs, record { value = z; good = (recursion_from_All p.IsGood (z ∷ zs) g.1).0; is = refl }, sym is)

      begins : (front : List ℕ) → Begins (IsTextOf p) front → Begins (IsTextOf (counted (n - length xs) p)) front
      begins front g =
          let z : X = g.text.value in
          let more : ℕ = n - length xs - 1 in
          record {
            rest = g.rest ++ flat_map p.text (replicate more z);
            text = record {
              value = z ∷ replicate more z;
              good = (omega (arith, length-replicate more z), All-cons p.IsGood z (replicate more z) g.text.good (All-replicate p.IsGood more z g.text.good));
              is = ap (λ (s : List ℕ). s ++ flat_map p.text (replicate more z)) g.text.is ∙ append_assoc front g.rest (flat_map p.text (replicate more z));
            };
          }

  -- one more of the list is read
  pub read_next : (n : ℕ) (bytes : List ℕ) (old mid new : Place) (xs : List X) (x : X)
      → IsRead (counted n p) bytes old mid xs → IsRead p bytes mid new x → IsRead (counted (n + 1) p) bytes old new (xs ++ x ∷ [])
  read_next n bytes old mid new xs x r s =
      let more : flat_map p.text xs ++ p.text x ≡ flat_map p.text (xs ++ x ∷ []) =
      ap (λ (t : List ℕ). flat_map p.text xs ++ t) (sym (append-nil (p.text x))) ∙ sym (flat_map-append p.text xs (x ∷ [])) in
      let P : List ℕ → Type 0 = λ (t : List ℕ). IsPassed (drop old.at bytes) old.line t (drop new.at bytes) new.line in
      record {
        good = (let l = r.good.0 in omega (arith, length-append xs (x ∷ [])), All-append p.IsGood xs (x ∷ []) r.good.1 (All-cons p.IsGood x [] s.good (All-nil p.IsGood)));
        passed = subst P more (passed_both (drop old.at bytes) (drop mid.at bytes) (drop new.at bytes) old.line mid.line new.line (flat_map p.text xs) (p.text x) r.passed s.passed);
      }

  -- the next part of the list fails
  pub fails_next : (n i : ℕ) (bytes : List ℕ) (old mid new : Place) (xs : List X) (e : ReadReplies) → i < n
      → IsRead (counted i p) bytes old mid xs → Tells p bytes mid new (Err e) → Tells (counted n p) bytes old new (Err e)
  fails_next n i bytes old mid new xs (Refused m) lt r f =
      refused_next n xs (let l = r.good.0 in omega arith) r.good.1 (drop old.at bytes) (drop mid.at bytes) old.line mid.line m r.passed f
  fails_next n i bytes old mid new xs NoMemory lt r f = tt

module _ {X Y : Type 0} (p : Part X) (q : X → Part Y) where
  -- the part in front fails
  pub fails_first : ((x : X) → p.IsGood x → (y : Y) × (q x).IsGood y) → (bytes : List ℕ) (old mid new : Place) (e : ReadReplies)
      → Tells p bytes old mid (Err e) → Tells (followed_by p q) bytes old new (Err e)
  fails_first more bytes old mid new (Refused n) f = refused_first p q more (drop old.at bytes) old.line n f
  fails_first more bytes old mid new NoMemory f = tt

  -- the part behind fails
  pub fails_second : IsOne p → (bytes : List ℕ) (old mid new last : Place) (x : X) (e : ReadReplies)
      → IsRead p bytes old mid x → Tells (q x) bytes mid new (Err e) → Tells (followed_by p q) bytes old last (Err e)
  fails_second o bytes old mid new last x (Refused n) r f =
      refused_second p q o x r.good (drop old.at bytes) (drop mid.at bytes) old.line mid.line n r.passed f
  fails_second o bytes old mid new last x NoMemory r f = tt

-- what is spelled in the same way fails in the same way
pub fails_as : {X Y : Type 0} (p : Part X) (q : Part Y) (w : IsSpelledAs p q) (bytes : List ℕ) (old mid new : Place) (e : ReadReplies)
    → Tells q bytes old mid (Err e) → Tells p bytes old new (Err e)
fails_as p q w bytes old mid new (Refused n) f = refused_as p q w (drop old.at bytes) old.line n f
fails_as p q w bytes old mid new NoMemory f = tt

-- Some texts of a part, one after the other.
record IsSomeOf {X : Type 0} (p : Part X) (bytes : List ℕ) : Type 0 where
  first : X
  others : List X
  good : ByRecursion p.IsGood (first ∷ others)
  is : p.text first ++ flat_map p.text others ≡ bytes

-- the bytes are the texts of a list of values
pub record IsAllOf {X : Type 0} (p : Part X) (bytes : List ℕ) : Type 0 where
  pub values : List X
  pub good : ByRecursion p.IsGood values
  pub is : flat_map p.text values ≡ bytes

module _ {X : Type 0} (p : Part X) (o : IsOne p) where
  -- a list of texts that begins with those of another list goes on with some of them
  go_on : (xs : List X) → ByRecursion p.IsGood xs → (v : List ℕ) → 0 < length v → IsAllOf p (flat_map p.text xs ++ v) → IsSomeOf p v
  go_on xs good v some all = by (cases_lt (length all.values) (length xs))
    where
      by : (length all.values < length xs) ⊎ (length xs ≤ length all.values) → IsSomeOf p v
      by (inl lt) =
          let f : (zs : List X) × (xs ≡ all.values ++ zs) =
          front_of_list p o all.values xs [] v all.good good (omega arith) (append-nil (flat_map p.text all.values) ∙ all.is) in
          let long : length (flat_map p.text xs) ≡ length (flat_map p.text all.values) + length (flat_map p.text f.0) =
          ap (λ (l : List X). length (flat_map p.text l)) f.1 ∙ ap length (flat_map-append p.text all.values f.0) ∙ length-append (flat_map p.text all.values) (flat_map p.text f.0) in
          let same : length (flat_map p.text all.values) ≡ length (flat_map p.text xs) + length v = ap length all.is ∙ length-append (flat_map p.text xs) v in
          absurd (omega arith)
      by (inr le) =
          let f : (zs : List X) × (all.values ≡ xs ++ zs) =
          front_of_list p o xs all.values v [] good all.good le (sym all.is ∙ sym (append-nil (flat_map p.text all.values))) in
          let rest : flat_map p.text f.0 ≡ v =
          append_cancel_left (flat_map p.text xs) (flat_map p.text f.0) v
          (sym (flat_map-append p.text xs f.0) ∙ ap (λ (l : List X). flat_map p.text l) (sym f.1) ∙ all.is) in
          more f.0 (behind xs f.0 (subst (ByRecursion p.IsGood) f.1 all.good)) rest
        where
          behind : (ks bs : List X) → ByRecursion p.IsGood (ks ++ bs) → ByRecursion p.IsGood bs
          behind [] bs h = h
          behind (a ∷ ks) bs h = behind ks bs h.1

          more : (zs : List X) → ByRecursion p.IsGood zs → flat_map p.text zs ≡ v → IsSomeOf p v
          more [] g e = let none : length v ≡ 0 = ap length (sym e) in absurd (omega arith)
          more (z ∷ zs) g e = record { first = z; others = zs; good = g; is = e }

  -- where some texts were passed and the next is refused, the bytes are no list of texts
  pub refused_last : (xs : List X) → ByRecursion p.IsGood xs → (bytes after : List ℕ) (next n : ℕ) → 0 < length after
      → IsPassed bytes 1 (flat_map p.text xs) after next → IsRefusedIn (IsTextOf p) after next n
      → (IsAllOf p bytes → ⊥) × StopsAt (IsAllOf p) bytes n
  refused_last xs good bytes after next n some passed r = (none, stop)
    where
      s : List ℕ
      s = flat_map p.text xs

      refused : IsRefusedIn (IsSomeOf p) after next n
      refused = refused_front (IsTextOf p) (IsSomeOf p)
          (λ front g. record {
            rest = g.rest;
            text = record { first = g.text.value; others = []; good = (g.text.good, tt); is = append-nil (p.text g.text.value) ∙ g.text.is };
          })
          (λ w t. (p.text t.first, flat_map p.text t.others, record { value = t.first; good = t.good.0; is = refl }, sym t.is))
          after next n r

      none : IsAllOf p bytes → ⊥
      none all = refused.none after [] (go_on xs good after some (subst (IsAllOf p) passed.cut all)) (sym (append-nil after))

      joins : (t : List ℕ) → IsSomeOf p t → IsAllOf p (flat_map p.text xs ++ t)
      joins t m = record {
        values = xs ++ (m.first ∷ m.others);
        good = joined xs (m.first ∷ m.others) good m.good;
        is = flat_map-append p.text xs (m.first ∷ m.others) ∙ ap (λ (l : List ℕ). flat_map p.text xs ++ l) m.is;
      }
        where
          joined : (ks bs : List X) → ByRecursion p.IsGood ks → ByRecursion p.IsGood bs → ByRecursion p.IsGood (ks ++ bs)
          joined [] bs g h = h
          joined (k ∷ ks) bs g h = (g.0, joined ks bs g.1 h)

      both : flat_map p.text xs ++ lines_text refused.stop.lines ≡ lines_text (passed.lines ++ refused.stop.lines)
      both = ap (λ (t : List ℕ). t ++ lines_text refused.stop.lines) passed.whole ∙ sym (flat_map-append (λ l. l ++ 10 ∷ []) passed.lines refused.stop.lines)

      joined_begun : Begins (IsSomeOf p) (lines_text refused.stop.lines) → Begins (IsAllOf p) (flat_map p.text xs ++ lines_text refused.stop.lines)
      joined_begun g = record { rest = g.rest; text = subst (IsAllOf p) (sym (append_assoc (flat_map p.text xs) (lines_text refused.stop.lines) g.rest)) (joins (lines_text refused.stop.lines ++ g.rest) g.text) }

      wrong_line : IsWrongLine (IsSomeOf p) (lines_text refused.stop.lines) refused.stop.after → IsWrongLine (IsAllOf p) (lines_text (passed.lines ++ refused.stop.lines)) refused.stop.after
      wrong_line w = record {
        line = w.line;
        rest = w.rest;
        next = w.next;
        one = w.one;
        wrong = λ (g : Begins (IsAllOf p) (lines_text (passed.lines ++ refused.stop.lines) ++ w.line ++ 10 ∷ [])).
            let front : List ℕ = lines_text refused.stop.lines ++ w.line ++ 10 ∷ [] in
            let regrouped : lines_text (passed.lines ++ refused.stop.lines) ++ w.line ++ 10 ∷ [] ++ g.rest ≡ flat_map p.text xs ++ (front ++ g.rest) =
            ap (λ (x : List ℕ). x ++ w.line ++ 10 ∷ [] ++ g.rest) (sym both) ∙ simp append_assoc in
            let long : 0 < length (front ++ g.rest) =
            omega (arith, length-append front g.rest, length-append (lines_text refused.stop.lines ++ w.line) (10 ∷ [])) in
            w.wrong (record { rest = g.rest; text = go_on xs good (front ++ g.rest) long (subst (IsAllOf p) regrouped g.text) });
      }

      stop : StopsAt (IsAllOf p) bytes n
      stop = record {
        lines = passed.lines ++ refused.stop.lines;
        after = refused.stop.after;
        cut = passed.cut ∙ ap (λ (t : List ℕ). flat_map p.text xs ++ t) refused.stop.cut ∙ sym (append_assoc (flat_map p.text xs) (lines_text refused.stop.lines) refused.stop.after)
            ∙ ap (λ (t : List ℕ). t ++ refused.stop.after) both;
        each = All-append IsOneLine passed.lines refused.stop.lines passed.each refused.stop.each;
        number = let a = refused.stop.number in let b = refused.number in let d = passed.number in omega (arith, length-append passed.lines refused.stop.lines);
        begun = subst (Begins (IsAllOf p)) both (joined_begun refused.stop.begun);
        stop = elim refused.stop.stop [ inl w ↦ inl (wrong_line w) | inr m ↦ inr m ];
      }

  -- the values that texts one after the other spell are determined
  pub one_list : (xs ys : List X) → ByRecursion p.IsGood xs → ByRecursion p.IsGood ys → ((x : X) → p.IsGood x → 0 < length (p.text x))
      → flat_map p.text xs ≡ flat_map p.text ys → xs ≡ ys
  one_list [] [] gx gy some e = refl
  one_list [] (y ∷ ys) gx gy some e = let s = some y gy.0 in absurd (omega (arith, ap length e, length-append (p.text y) (flat_map p.text ys)))
  one_list (x ∷ xs) [] gx gy some e = let s = some x gx.0 in absurd (omega (arith, ap length e, length-append (p.text x) (flat_map p.text xs)))
  one_list (x ∷ xs) (y ∷ ys) gx gy some e =
      let first : x ≡ y = o.same x y (flat_map p.text xs) (flat_map p.text ys) gx.0 gy.0 e in
      let tails : flat_map p.text xs ≡ flat_map p.text ys =
      append_cancel_left (p.text x) (flat_map p.text xs) (flat_map p.text ys) (e ∙ ap (λ (z : X). p.text z ++ flat_map p.text ys) (sym first)) in
      ap (λ (z : X). z ∷ xs) first ∙ ap (λ (l : List X). y ∷ l) (one_list xs ys gx.1 gy.1 some tails)
