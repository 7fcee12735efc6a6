-- The plane: how far points are apart, the image of a point in a rectangle, and the distance of a rectangle to a point.
use Rattle.std.proofs.Common.{ℕ, ◌≡◌, ◌+◌, ◌≤◌, refl, arith}
use Rattle.geo_rect.specs.declared.shapes.Point.{Point}
use Rattle.geo_rect.specs.declared.shapes.Rect.{Rect}
use Rattle.geo_rect.specs.Plane.{HasPoint, columns, rows}
use Rattle.geo_rect.specs.Distance.{apart, IsAway}
use Rattle.geo_rect.specs.Images.{IsImage}
use Rattle.geo_rect.proofs.Steps.{between-self, between-sym, between-triangle, find_place, image_from, place_of, on_the_way}

pub apart-self : (p : Point) → apart p p ≡ 0
apart-self p = omega (arith, between-self p.x, between-self p.y)

pub apart-sym : (p q : Point) → apart p q ≡ apart q p
apart-sym p q = omega (arith, between-sym p.x q.x, between-sym p.y q.y)

pub apart-triangle : (p q r : Point) → apart p r ≤ apart p q + apart q r
apart-triangle p q r = omega (arith, between-triangle p.x q.x r.x, between-triangle p.y q.y r.y)

pub find_image : (e : Rect) (p : Point) → (q : Point) × IsImage e p q
find_image e p =
    let x = find_place (columns e) p.x in
    let y = find_place (rows e) p.y in
    (record { x = x.0; y = y.0 }, record { across = image_from (columns e) p.x x.0 x.1; up = image_from (rows e) p.y y.0 y.1 })

pub image_inside : (e : Rect) (p q : Point) → IsImage e p q → HasPoint e q
image_inside e p q i = record { across = i.across.inside; up = i.up.inside }

pub image_nearest : (e : Rect) (p q r : Point) → IsImage e p q → HasPoint e r → apart q p ≤ apart r p
image_nearest e p q r i h = omega (arith, i.across.nearest r.x h.across, i.up.nearest r.y h.up)

pub image_on_the_way : (e : Rect) (p q v : Point) → IsImage e p q → HasPoint e v → apart p q + apart q v ≤ apart p v
image_on_the_way e p q v i h =
    omega (arith, on_the_way (columns e) p.x q.x v.x (place_of (columns e) p.x q.x i.across) h.across, on_the_way (rows e) p.y q.y v.y (place_of (rows e) p.y q.y i.up) h.up)

-- the image of v in a is as near to v as any point of a
pub image_away : (a : Rect) (v q : Point) → IsImage a v q → IsAway a v (apart q v)
image_away a v q i = record { reached = (q, image_inside a v q i, refl); least = λ p h. image_nearest a v q p i h }

pub find_away : (a : Rect) (v : Point) → (n : ℕ) × IsAway a v n
find_away a v = let q = find_image a v in (apart q.0 v, image_away a v q.0 q.1)

pub away_one : (a : Rect) (v : Point) (m n : ℕ) → IsAway a v m → IsAway a v n → m ≡ n
away_one a v m n p q =
    let x = p.reached in
    let y = q.reached in
    omega (arith, p.least y.0 y.1, q.least x.0 x.1, x.2, y.2)
