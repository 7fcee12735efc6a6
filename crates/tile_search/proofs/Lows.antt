-- The least distance to a target box, box by box.
use Rattle.std.proofs.Common.{◌≡◌, ℕ, ◌+◌, ◌<◌, ◌≤◌, ◌⊎◌, inl, inr, min, List, Contains, length, get_or, take, sym, subst, arith}
use Rattle.std.proofs.lemmas.Bool.{cases_lt}
use Rattle.std.proofs.lemmas.List.{take_all}
use Rattle.geo_rect.specs.declared.ids.Spot.{Spot}
use Rattle.geo_rect.specs.declared.shapes.Rect.{Rect}
use Rattle.geo_rect.specs.Distance.{IsDistance}
use Rattle.geo_rect.proofs.Distances.{distance_one}
use Rattle.route_law.specs.Covers.{IsLow}
use Rattle.route_law.proofs.Numbered.{taken_cases}

-- n is the distance from the front to some target box, and at most that to each of a few
pub record IsLowSoFar (targets few : List Spot) (front : Rect) (n : ℕ) : Type 0 where
  pub nearest : Spot
  pub listed : Contains targets nearest
  pub distance : IsDistance front nearest.area n
  pub least : (box : Spot) (m : ℕ) → Contains few box → IsDistance front box.area m → n ≤ m

module _ (targets : List Spot) (front : Rect) where
  pub low_first : (x : Spot) (n : ℕ) → 0 < length targets → x ≡ get_or targets 0 x → IsDistance front x.area n → IsLowSoFar targets (take 0 targets) front n
  low_first x n some is d = record {
    nearest = x;
    listed = (0, some, sym is);
    distance = d;
    least = λ box m c e. let l = c.1 in absurd (omega (arith, l));
  }

  module _ (i : ℕ) (x : Spot) (m n : ℕ) (room : i < length targets) (is : x ≡ get_or targets i x) (low : IsLowSoFar targets (take i targets) front m) (d : IsDistance front x.area n) where
    least_more : (k : ℕ) → k ≤ m → k ≤ n → (box : Spot) (j : ℕ) → Contains (take (i + 1) targets) box → IsDistance front box.area j → k ≤ j
    least_more k before here box j c e =
        elim (taken_cases targets i x box room is c) [
          | inl h ↦ omega (arith, low.least box j h e, before)
          | inr q ↦
              let P : Spot → Type 0 = λ y. IsDistance front y.area n in
              omega (arith, distance_one front box.area n j (subst P q d) e, here)
        ]

    low_of_min : (m < n) ⊎ (n ≤ m) → IsLowSoFar targets (take (i + 1) targets) front (min m n)
    low_of_min (inl h) =
        let e : m ≡ min m n = omega arith in
        subst (IsLowSoFar targets (take (i + 1) targets) front) e
        (record { nearest = low.nearest; listed = low.listed; distance = low.distance; least = least_more m (omega arith) (omega arith) })
    low_of_min (inr h) =
        let e : n ≡ min m n = omega arith in
        subst (IsLowSoFar targets (take (i + 1) targets) front) e
        (record { nearest = x; listed = (i, room, sym is); distance = d; least = least_more n h (omega arith) })

    pub low_more : IsLowSoFar targets (take (i + 1) targets) front (min m n)
    low_more = low_of_min (cases_lt m n)

  pub low_all : (i n : ℕ) → length targets ≤ i → IsLowSoFar targets (take i targets) front n → IsLow targets front n
  low_all i n l low = record {
    nearest = low.nearest;
    listed = low.listed;
    distance = low.distance;
    least = λ box m c d.
        let P : List Spot → Type 0 = λ xs. Contains xs box in
        low.least box m (subst P (sym (take_all i targets l)) c) d;
  }
