-- A point next to a rectangle is one step farther from each part of it than the point of it beside which it lies.
use Rattle.std.proofs.Common.{ℕ, suc, zero, ◌≡◌, ◌+◌, ◌≤◌, refl, arith}
use Rattle.geo_rect.specs.declared.shapes.Point.{Point}
use Rattle.geo_rect.specs.declared.shapes.Rect.{Rect}
use Rattle.geo_rect.specs.Distance.{apart, IsAway}
use Rattle.geo_rect.specs.Plane.{HasPoint}
use Rattle.geo_rect.proofs.Distances.{on_point}
use Rattle.geo_rect.proofs.Nearest.{apart-sym, apart-triangle, find_image, image_inside, image_on_the_way}

not_there : (t : Rect) (p r : Point) (n : ℕ) → (HasPoint t p → ⊥) → HasPoint t r → apart p r ≡ n → 1 ≤ n
not_there t p r zero out h e = absurd (out (on_point t r p (let s = apart-sym r p in omega arith) h))
not_there t p r (suc n) out h e = omega arith

pub one_step_before : (t f : Rect) (q p : Point) (n m : ℕ) → ((x : Point) → HasPoint f x → HasPoint t x) → HasPoint t q → (HasPoint t p → ⊥) → apart q p ≡ 1 → IsAway f q n → IsAway f p m → n + 1 ≤ m
one_step_before t f q p n m part h out one a b =
    let r = find_image t p in
    let hr = image_inside t p r.0 r.1 in
    let x = b.reached in
    let far = not_there t p r.0 (apart p r.0) out hr refl in
    let on = image_on_the_way t p r.0 q r.1 h in
    let straight = image_on_the_way t p r.0 x.0 r.1 (part x.0 x.1) in
    omega (
      arith,
      far,
      on,
      straight,
      one,
      x.2,
      a.least x.0 x.1,
      apart-sym q p,
      apart-sym q r.0,
      apart-sym x.0 q,
      apart-sym x.0 p,
      apart-triangle q r.0 x.0,
    )
