-- The first entry of the map is what a pop takes out.
use Rattle.std.proofs.Common.{ℕ, ◌≡◌, ◌≤◌, ◌<◌, refl, ap, ◌∙◌, subst, List, [], ◌∷◌, ◌++◌, map, arith}
use Rattle.std.specs.Prelude.{All}
use Rattle.std.specs.declared.cmp.Ordering.{Ordering}
use Rattle.std.specs.declared.cmp.Ordering.TheVariants.{Less, Equal, Greater}
use Rattle.std.specs.Ordering.{MatchOrdering, nat_cmp, ordering_then}
use Rattle.std.proofs.lemmas.Cmp.{ranked}
use Rattle.std.proofs.lemmas.List.{map-append}
use Rattle.std.proofs.lemmas.List.Elements.{All-nil, All-cons, All-head, All-tail, All-map}
use Rattle.wavefront.specs.Waiting.{Pair, IsPopped}
use Rattle.wavefront.specs.PushOrder.{Numbered, in_push_order, pair_of, pairs_of}
use Rattle.wavefront.proofs.Order.{find_put, all_in_order}

-- the order of the map: by key, and by the number of the push where the keys are equal
abbrev pub by_key_and_push : ℕ × ℕ → ℕ × ℕ → Ordering
by_key_and_push a b = ordering_then (nat_cmp a.0 b.0) (nat_cmp a.1 b.1)

-- y has no lesser key than x, and a greater one if it was not pushed after x
pub record IsBehind (x y : Numbered) : Type 0 where
  pub no_less : x.0.0 ≤ y.0.0
  pub greater : y.0.1 ≤ x.0.1 → x.0.0 < y.0.0

behind_by : (x y : Numbered) (o p : Ordering) → MatchOrdering o (x.0.0 < y.0.0) (x.0.0 ≡ y.0.0) (y.0.0 < x.0.0) → MatchOrdering p (x.0.1 < y.0.1) (x.0.1 ≡ y.0.1) (y.0.1 < x.0.1) → ordering_then o p ≡ Less → IsBehind x y
behind_by x y Less p k n e = record { no_less = omega arith; greater = λ h. k }
behind_by x y Equal Less k n e = record { no_less = omega arith; greater = λ h. omega arith }
behind_by x y Equal Equal k n e = cc
behind_by x y Equal Greater k n e = cc
behind_by x y Greater p k n e = cc

behind : (x y : Numbered) → by_key_and_push x.0 y.0 ≡ Less → IsBehind x y
behind x y e = behind_by x y (nat_cmp x.0.0 y.0.0) (nat_cmp x.0.1 y.0.1) (ranked x.0.0 y.0.0 _ refl) (ranked x.0.1 y.0.1 _ refl) e

-- what comes after x in the order of the map is behind it
pub all_behind : (x : Numbered) (xs : List Numbered) → All (λ k. by_key_and_push x.0 k ≡ Less) (map (λ y. y.0) xs) → All (IsBehind x) xs
all_behind x [] all = All-nil (IsBehind x)
all_behind x (y ∷ ys) all =
    let P : ℕ × ℕ → Type 0 = λ k. by_key_and_push x.0 k ≡ Less in
    let keys : List (ℕ × ℕ) = map (λ (z : Numbered). z.0) ys in
    All-cons (IsBehind x) y ys (behind x y (All-head P y.0 keys all)) (all_behind x ys (All-tail P y.0 keys all))

all_before : {A : Type 0} (P : A → Type 0) (xs ys : List A) → All P (xs ++ ys) → All P xs
all_before P [] ys all = All-nil P
all_before P (x ∷ xs) ys all = All-cons P x xs (All-head P x (xs ++ ys) all) (all_before P xs ys (All-tail P x (xs ++ ys) all))

all_after : {A : Type 0} (P : A → Type 0) (xs ys : List A) → All P (xs ++ ys) → All P ys
all_after P [] ys all = all
all_after P (x ∷ xs) ys all = all_after P xs ys (All-tail P x (xs ++ ys) all)

-- without x, before which nothing in the map stands, the pairs are popped
pub popped : (x : Numbered) (xs : List Numbered) → All (IsBehind x) xs → IsPopped (pairs_of (x ∷ xs)) (pair_of x) (pairs_of xs)
popped x xs all =
    let s = find_put x (in_push_order xs) in
    let parts : All (IsBehind x) (s.before ++ s.after) = let P : List Numbered → Type 0 = λ zs. All (IsBehind x) zs in subst P s.was (all_in_order (IsBehind x) xs all) in
    let first : All (IsBehind x) s.before = all_before (IsBehind x) s.before s.after parts in
    let last : All (IsBehind x) s.after = all_after (IsBehind x) s.before s.after parts in
    record {
      before = map pair_of s.before;
      after = map pair_of s.after;
      was = ap (λ (zs : List Numbered). map pair_of zs) s.now ∙ map-append pair_of s.before (x ∷ s.after);
      left = ap (λ (zs : List Numbered). map pair_of zs) s.was ∙ map-append pair_of s.before s.after;
      earlier = All-map (λ (p : Pair). x.0.0 < p.key) pair_of s.before (λ k d l. (first k d l).greater (s.earlier k d l));
      later = All-map (λ (p : Pair). x.0.0 ≤ p.key) pair_of s.after (λ k d l. (last k d l).no_less);
    }
