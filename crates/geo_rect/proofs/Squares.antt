-- What is too close to a square is too close to its middle for a greater gap.
use Rattle.std.proofs.Common.{ℤ, pos, ◌≡◌, ◌+ℤ◌, ◌≤ℤ◌, ◌↔◌, arith}
use Rattle.std.proofs.lemmas.Int.{ints}
use Rattle.geo_rect.specs.declared.shapes.Interval.{Interval}
use Rattle.geo_rect.specs.declared.shapes.Point.{Point}
use Rattle.geo_rect.specs.declared.shapes.Rect.{Rect}
use Rattle.geo_rect.specs.Axis.{IsNear, around}
use Rattle.geo_rect.specs.Plane.{HasPoint, IsTooClose, IsGrown, square}

narrowed : (i : Interval) (v g h s : ℤ) → pos 0 ≤ℤ h → h +ℤ s ≡ g → IsNear (around v h) i s → IsNear (around v (pos 0)) i g
narrowed i v g h s p e n = record { after = omega (arith, ints); before = omega (arith, ints) }

broadened : (i : Interval) (v g h s : ℤ) → pos 0 ≤ℤ h → h +ℤ s ≡ g → IsNear (around v (pos 0)) i g → IsNear (around v h) i s
broadened i v g h s p e n = record { after = omega (arith, ints); before = omega (arith, ints) }

pub grown-square : (b r : Rect) (g h s : ℤ) (p : Point) → IsGrown b g r → pos 0 ≤ℤ h → h +ℤ s ≡ g → IsTooClose (square p h) b s ↔ HasPoint r p
grown-square b r g h s p w o e = (
  λ t. w.all p (record { across = narrowed _ p.x g h s o e t.across; up = narrowed _ p.y g h s o e t.up }),
  λ q. let t = w.close p q in record { across = broadened _ p.x g h s o e t.across; up = broadened _ p.y g h s o e t.up },
)
