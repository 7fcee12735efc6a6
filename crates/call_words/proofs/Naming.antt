-- Lists of words as lists of their bytes, and what is known of a list from a place of it.
use Rattle.std.proofs.Common.{◌≡◌, ◌≢◌, ℕ, ◌+◌, suc, ◌<◌, ◌≤◌, ◌⊎◌, inl, inr, true, false, IsTrue, List, [], ◌∷◌, length, get_or, map, drop, decimal, refl, sym, ap, subst, ◌∙◌, arith, length-drop, get_or-drop}
use Rattle.std.specs.Prelude.{All, AllPairs, Contains}
use Rattle.std.proofs.lemmas.Bool.{cases_lt, false≢true}
use Rattle.std.proofs.lemmas.List.{get_or-map, get_or_default, length-map}
use Rattle.call_words.specs.declared.requests.Corners.{Corners}
use Rattle.call_words.specs.Asked.{words_of_corners}

pub refuted : {P : Type 0} → (P → ⊥) → (IsTrue false → P) × (P → IsTrue false)
refuted never = (λ e. absurd (false≢true e), λ p. absurd (never p))

pub shown : {P : Type 0} → P → (IsTrue true → P) × (P → IsTrue true)
shown p = (λ e. p, λ q. refl)

module _ {X : Type 0} (f : X → List ℕ) (words : List X) where
  -- the bytes of the word in a place
  pub bytes_at : (i : ℕ) (w : X) (d : List ℕ) → i < length words → w ≡ get_or words i w → get_or (map f words) i d ≡ f w
  bytes_at i w d lt is = get_or-map f words i w d lt ∙ ap f (sym is)

  pub has_place : (i : ℕ) (w : X) (name : List ℕ) → i < length words → w ≡ get_or words i w → f w ≡ name → Contains (map f words) name
  has_place i w name lt is same = (i, omega (arith, length-map words f), bytes_at i w name lt is ∙ same)

  -- one word for which it is not so is enough
  pub not_all : (P : List ℕ → Type 0) (i : ℕ) (w : X) → i < length words → w ≡ get_or words i w → (P (f w) → ⊥) → All P (map f words) → ⊥
  not_all P i w lt is never all = never (subst P (bytes_at i w [] lt is) (all i [] (omega (arith, length-map words f))))

  -- it is so for one word more
  pub one_more : (P : List ℕ → Type 0) (i : ℕ) (w : X) → i < length words → w ≡ get_or words i w → ((k : ℕ) (d : List ℕ) → k < i → P (get_or (map f words) k d)) → P (f w) → (k : ℕ) (d : List ℕ) → k < i + 1 → P (get_or (map f words) k d)
  one_more P i w lt is before here k d below = by (cases_lt k i)
    where
      by : (k < i) ⊎ (i ≤ k) → P (get_or (map f words) k d)
      by (inl h) = before k d h
      by (inr h) =
          let e : i ≡ k = omega arith in
          subst (λ n. P (get_or (map f words) n d)) e (subst P (sym (bytes_at i w d lt is)) here)

  -- one word alone, and four words
  pub one_word : (w : X) → 1 ≤ length words → length words < 2 → w ≡ get_or words 0 w → map f words ≡ f w ∷ []
  one_word w some few e = single words some few e
    where
      single : (xs : List X) → 1 ≤ length xs → length xs < 2 → w ≡ get_or xs 0 w → map f xs ≡ f w ∷ []
      single [] some few e = absurd (omega arith)
      single (a ∷ []) some few e = ap (λ (x : X). f x ∷ []) (sym e)
      single (a ∷ b ∷ ws) some few e = absurd (omega arith)

-- a first word, and those behind it
pub first_word : {X : Type 0} (f : X → List ℕ) (words : List X) (w : X) → 1 ≤ length words → w ≡ get_or words 0 w → map f words ≡ f w ∷ map f (drop 1 words)
first_word f [] w some e = absurd (omega arith)
first_word f (a ∷ ws) w some e = ap (λ x. f x ∷ map f ws) (sym e)

pub four_words : {X : Type 0} (f : X → List ℕ) (words : List X) (p q r s : X) → 4 ≤ length words → length words < 5 → p ≡ get_or words 0 p → q ≡ get_or words 1 q → r ≡ get_or words 2 r → s ≡ get_or words 3 s
    → map f words ≡ f p ∷ f q ∷ f r ∷ f s ∷ []
four_words f [] p q r s some few ep eq er es = absurd (omega arith)
four_words f (a ∷ []) p q r s some few ep eq er es = absurd (omega arith)
four_words f (a ∷ b ∷ []) p q r s some few ep eq er es = absurd (omega arith)
four_words f (a ∷ b ∷ d ∷ []) p q r s some few ep eq er es = absurd (omega arith)
four_words f (a ∷ b ∷ d ∷ e ∷ []) p q r s some few ep eq er es = rw (ep, eq, er, es) refl
four_words f (a ∷ b ∷ d ∷ e ∷ g ∷ ws) p q r s some few ep eq er es = absurd (omega arith)

-- words that spell two corners spell each of their numbers
pub record AreSpelled (p q r s : List ℕ) (c : Corners) : Type 0 where
  pub x0 : decimal c.x0 ≡ p
  pub y0 : decimal c.y0 ≡ q
  pub x1 : decimal c.x1 ≡ r
  pub y1 : decimal c.y1 ≡ s

pub corners-spelled : (words : List (List ℕ)) (p q r s : List ℕ) (c : Corners) → words ≡ p ∷ q ∷ r ∷ s ∷ [] → words_of_corners c ≡ words → AreSpelled p q r s c
corners-spelled words p q r s c is spelled =
    let both : decimal c.x0 ∷ decimal c.y0 ∷ decimal c.x1 ∷ decimal c.y1 ∷ [] ≡ p ∷ q ∷ r ∷ s ∷ [] = spelled ∙ is in
    record { x0 = cc; y0 = cc; x1 = cc; y1 = cc }

-- a name that stands again later is not apart from all others
pub not_apart : (names : List (List ℕ)) (i : ℕ) (x : List ℕ) → i < length names → get_or names i x ≡ x → Contains (drop (i + 1) names) x → AllPairs (λ a b. a ≢ b) names → ⊥
not_apart names i x lt at h apart =
    apart i (i + 1 + h.0) x (omega arith) (omega (arith, h.1, length-drop (i + 1) names)) (at ∙ sym (sym (get_or-drop (i + 1) names h.0 x) ∙ h.2))

pub first_again : (x : List ℕ) (xs : List (List ℕ)) → Contains xs x → AllPairs (λ a b. a ≢ b) (x ∷ xs) → ⊥
first_again x xs h apart = apart 0 (suc h.0) x (omega arith) (omega (arith, h.1)) (sym h.2)

pub apart-tail : (x : List ℕ) (xs : List (List ℕ)) → AllPairs (λ a b. a ≢ b) (x ∷ xs) → AllPairs (λ a b. a ≢ b) xs
apart-tail x xs apart = λ i j d below inside. apart (suc i) (suc j) d (omega arith) (omega arith)

pub all_differ : (x : List ℕ) (xs : List (List ℕ)) → (Contains xs x → ⊥) → All (λ y. x ≢ y) xs
all_differ x xs never = λ k d lt e. never (k, lt, get_or_default xs k x d lt ∙ sym e)

-- things whose names are all different are all different
pub apart-by_names : {X Y : Type 0} (name : X → Y) (xs : List X) → AllPairs (λ a b. a ≢ b) (map name xs) → AllPairs (λ a b. a ≢ b) xs
apart-by_names name xs h = λ i j d below inside same.
    let first : get_or (map name xs) i (name d) ≡ name (get_or xs i d) = get_or-map name xs i d (name d) (omega arith) in
    let second : get_or (map name xs) j (name d) ≡ name (get_or xs j d) = get_or-map name xs j d (name d) inside in
    h i j (name d) below (omega (arith, length-map xs name)) (first ∙ ap name same ∙ sym second)
