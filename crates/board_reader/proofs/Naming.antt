-- A list of names beside the keys that hold them.
use Rattle.std.proofs.Common.{◌≡◌, ℕ, ◌+◌, ◌<◌, Bool, true, false, List, [], ◌∷◌, ◌++◌, Some, None, length, map, refl, sym, ◌∙◌, arith, drop, get_or, add-one}
use Rattle.std.specs.Prelude.{position, find, not}
use Rattle.std.specs.List.{list_any, prefix_len, position_or_len}
use Rattle.std.proofs.lemmas.List.{length-map}
use Rattle.std.proofs.Math.Seq.{drop-cons}
use Rattle.std.proofs.Common.{◌≢◌, ◌≤◌}
use Rattle.std.specs.Str.{bytes_eq}
use Rattle.std.specs.Prelude.{nat_lt, unwrap_or}
use Rattle.std.proofs.lemmas.Bool.{false≢true, cond_both, ltb-true}
use Rattle.std.proofs.lemmas.List.{length_push}
use Rattle.std.proofs.lemmas.List.Elements.{All-push}
use Rattle.std.proofs.lemmas.List.Folds.{list_any_at}
use Rattle.std.proofs.lemmas.List.Quantifiers.{all_pairs_push}
use Rattle.std.proofs.lemmas.Slice.Eq.{bytes_eq-Decides}
use Rattle.board_parts.specs.Rules.{IsName, AreNames}
use Rattle.board_reader.specs.Names.{is_in, number_in}

pub list_any-map : {X Y : Type 0} (f : X → Y) (p : Y → Bool) (xs : List X) → list_any (λ x. p (f x)) xs ≡ list_any p (map f xs)
list_any-map f p [] = refl
list_any-map f p (x ∷ xs) = rw (list_any-map f p xs) refl

pub prefix_len-map : {X Y : Type 0} (f : X → Y) (p : Y → Bool) (xs : List X) → prefix_len (λ x. p (f x)) xs ≡ prefix_len p (map f xs)
prefix_len-map f p [] = refl
prefix_len-map f p (x ∷ xs) = rw (prefix_len-map f p xs) refl

pub position-map : {X Y : Type 0} (f : X → Y) (p : Y → Bool) (xs : List X) → position (λ x. p (f x)) xs ≡ position p (map f xs)
position-map f p xs =
    let n : prefix_len (λ x. not (p (f x))) xs ≡ prefix_len (λ y. not (p y)) (map f xs) = prefix_len-map f (λ y. not (p y)) xs in
    let l : length (map f xs) ≡ length xs = simp length-map in
    rw (n, l) refl

-- a test that fails at the next item finds no other than one later
pub find-next : {X : Type 0} (p : X → Bool) (xs : List X) (i : ℕ) (d : X) → i < length xs → p (get_or xs i d) ≡ false → find p (drop (i + 1) xs) ≡ find p (drop i xs)
find-next p xs i d h e = rw (drop-cons xs i d, e, add-one) refl

-- none of the names is the name that is not one of them
pub fresh-apart : (names : List (List ℕ)) (w : List ℕ) → is_in names w ≡ false → (k : ℕ) (d : List ℕ) → k < length names → get_or names k d ≢ w
unfolding is_in
fresh-apart names w fresh k d inside same =
    let found : bytes_eq w (get_or names k d) ≡ true = (bytes_eq-Decides w (get_or names k d)).1 (sym same) in
    false≢true (sym fresh ∙ list_any_at (bytes_eq w) names k d inside found)

pub names-push : (most : ℕ) (names : List (List ℕ)) (w : List ℕ) → AreNames most names → IsName w → is_in names w ≡ false → length names + 1 ≤ most → AreNames most (names ++ w ∷ [])
names-push most names w h name fresh room = record {
  few = rw (length_push names w) room;
  each = All-push IsName names w h.each name;
  apart = all_pairs_push (λ a b. a ≢ b) names w h.apart (fresh-apart names w fresh);
}

some-name : (p : List ℕ → Bool) (names : List (List ℕ)) → list_any p names ≡ true → 0 < length names
some-name p [] e = absurd (false≢true e)
some-name p (n ∷ names) e = omega arith

-- a known name has a number among the names
pub number-in-range : (names : List (List ℕ)) (w : List ℕ) → is_in names w ≡ true → number_in names w < length names
unfolding is_in number_in
number-in-range names w known =
    let some : 0 < length names = some-name (bytes_eq w) names known in
    let n = position_or_len (bytes_eq w) names in
    cond_both (nat_lt n (length names)) (Some n) None (λ o. unwrap_or o 0 < length names) (λ e. ltb-true n (length names) e) (λ e. some)
