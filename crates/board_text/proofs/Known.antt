-- The names of a board are found under their numbers, and each is new where it is given.
use Rattle.std.proofs.Common.{◌≡◌, ◌≢◌, ℕ, ◌+◌, ◌<◌, ◌≤◌, suc, zero, Bool, true, false, List, [], ◌∷◌, Some, length, get_or, take, refl, sym, ap, ◌∙◌, arith}
use Rattle.std.specs.Prelude.{position, unwrap_or, nat_lt}
use Rattle.std.specs.List.{list_any}
use Rattle.std.specs.Option.{option_map}
use Rattle.std.specs.Str.{bytes_eq}
use Rattle.std.proofs.lemmas.Bool.{false_from_ne_true, le-ltb, or_from}
use Rattle.std.proofs.lemmas.List.{length-take-le, get_or-take}
use Rattle.std.proofs.lemmas.List.Folds.{list_any_at}
use Rattle.std.proofs.lemmas.Slice.Eq.{bytes_eq-Decides}
use Rattle.board_parts.specs.Rules.{AreNames}
use Rattle.board_reader.specs.Names.{is_in, number_in}
use Rattle.board_reader.proofs.Cutting.{position-here, position-later}
use Rattle.board_text.proofs.Fitting.{IsNamed}
use Rattle.board_text.proofs.Lines.{IsGood, good-name}

other-name : (v w : List ℕ) → v ≢ w → bytes_eq w v ≡ false
other-name v w apart = false_from_ne_true (bytes_eq w v) (λ e. apart (sym ((bytes_eq-Decides w v).0 e)))

same-name : (w : List ℕ) → bytes_eq w w ≡ true
same-name w = (bytes_eq-Decides w w).1 refl

-- the first place that passes
first-place : {X : Type 0} (p : X → Bool) (xs : List X) (k : ℕ) (d : X) → k < length xs → p (get_or xs k d) ≡ true → ((i : ℕ) → i < k → p (get_or xs i d) ≡ false) → position p xs ≡ Some k
first-place p [] k d inside here before = absurd (omega arith)
first-place p (x ∷ xs) zero d inside here before = position-here p x xs here
first-place p (x ∷ xs) (suc k) d inside here before =
    position-later p x xs (before 0 (omega arith))
    ∙ (ap (option_map (λ (n : ℕ). n + 1)) (first-place p xs k d (omega arith) here (λ i l. before (suc i) (omega arith))) ∙ ap (λ n. Some n) (omega arith))

none-passes : {X : Type 0} (p : X → Bool) (xs : List X) (d : X) → ((i : ℕ) → i < length xs → p (get_or xs i d) ≡ false) → list_any p xs ≡ false
none-passes p [] d h = refl
none-passes p (x ∷ xs) d h = or_from (p x) (list_any p xs) (h 0 (omega arith)) (none-passes p xs d (λ i l. h (suc i) (omega arith)))

pub number-of-name : (most : ℕ) (names : List (List ℕ)) (k : ℕ) (d : List ℕ) → AreNames most names → k < length names → number_in names (get_or names k d) ≡ k
unfolding number_in
number-of-name most names k d h inside =
    let w = get_or names k d in
    ap (λ o. unwrap_or o 0) (first-place (bytes_eq w) names k d inside (same-name w) (λ i l. other-name (get_or names i d) w (h.apart i k d l inside)))

short-name : (most : ℕ) (names : List (List ℕ)) (k : ℕ) (d : List ℕ) → AreNames most names → k < length names → length (get_or names k d) ≤ 64
short-name most names k d h inside = (h.each k d inside).short

pub name-known : (most : ℕ) (names : List (List ℕ)) (k : ℕ) (d : List ℕ) → AreNames most names → k < length names → IsNamed names (get_or names k d) true
unfolding is_in
name-known most names k d h inside = record {
  short = short-name most names k d h inside;
  known = list_any_at (bytes_eq (get_or names k d)) names k d inside (same-name (get_or names k d));
}

pub name-new : (most : ℕ) (names : List (List ℕ)) (k : ℕ) (d : List ℕ) → AreNames most names → k < length names → IsNamed (take k names) (get_or names k d) false
unfolding is_in
name-new most names k d h inside =
    let w = get_or names k d in
    let size : length (take k names) ≡ k = length-take-le k names (omega arith) in
    record {
      short = short-name most names k d h inside;
      known = none-passes (bytes_eq w) (take k names) d (λ i l.
          let lt : i < k = omega (arith, size) in
          ap (bytes_eq w) (get_or-take k names i d lt) ∙ other-name (get_or names i d) w (h.apart i k d lt inside));
    }

pub good-of-names : (most : ℕ) (names : List (List ℕ)) (k : ℕ) (d : List ℕ) → AreNames most names → k < length names → IsGood (get_or names k d)
good-of-names most names k d h inside = good-name (get_or names k d) (h.each k d inside)

-- there is room for one more of a list that is not too long
pub room : {X : Type 0} (most : ℕ) (xs : List X) (k : ℕ) → k < length xs → length xs ≤ most → nat_lt most (length (take k xs) + 1) ≡ false
room most xs k inside few =
    let size : length (take k xs) ≡ k = length-take-le k xs (omega arith) in
    le-ltb most (length (take k xs) + 1) (omega (arith, size))

-- the same beside others
pub room-with : {X : Type 0} (most : ℕ) (xs : List X) (k others : ℕ) → k < length xs → length xs + others ≤ most → nat_lt most (length (take k xs) + others + 1) ≡ false
room-with most xs k others inside few =
    let size : length (take k xs) ≡ k = length-take-le k xs (omega arith) in
    le-ltb most (length (take k xs) + others + 1) (omega (arith, size))

pub room-after : {X : Type 0} (most : ℕ) (xs : List X) (k others : ℕ) → k < length xs → others + length xs ≤ most → nat_lt most (others + length (take k xs) + 1) ≡ false
room-after most xs k others inside few =
    let size : length (take k xs) ≡ k = length-take-le k xs (omega arith) in
    le-ltb most (others + length (take k xs) + 1) (omega (arith, size))
