-- A wire is as near to an area as the squares round the points of its centre line are.
use Rattle.std.proofs.Common.{ℤ, pos, ◌+ℤ◌, ◌-ℤ◌, ◌≤ℤ◌, ◌<ℤ◌, arith}
use Rattle.std.specs.Int.{int_min, int_max}
use Rattle.std.specs.Int.RustNames.{unsigned_abs}
use Rattle.std.proofs.lemmas.Int.{ints, clamps, by_lt_z}
use Rattle.geo_rect.specs.declared.shapes.Interval.{Interval}
use Rattle.geo_rect.specs.declared.shapes.Point.{Point}
use Rattle.geo_rect.specs.declared.shapes.Rect.{Rect}
use Rattle.geo_rect.specs.Axis.{HasNumber, IsNear, around}
use Rattle.geo_rect.specs.Plane.{HasPoint, IsTooClose, square}
use Rattle.board_parts.specs.Rules.{IsOnBoard}
use Rattle.board_model.specs.Segments.{stretch, segment}

-- a number from a to b whose reach is near
pub record IsNearBy (j : Interval) (a b k s : ℤ) : Type 0 where
  pub number : ℤ
  pub from : a ≤ℤ number
  pub to : number ≤ℤ b
  pub after : j.low <ℤ (number +ℤ k +ℤ s)
  pub before : (number -ℤ k) <ℤ (j.high +ℤ s)

near_by : (j : Interval) (a b k s : ℤ) → a ≤ℤ b → pos 1 ≤ℤ k → pos 1 ≤ℤ s → j.low <ℤ (b +ℤ k +ℤ s) → (a -ℤ k) <ℤ (j.high +ℤ s) → IsNearBy j a b k s
near_by j a b k s ab k1 s1 after before =
    let o = j.ordered in
    by_lt_z j.low (a +ℤ k +ℤ s)
    (λ near. record { number = a; from = omega (arith, ints); to = ab; after = near; before = before })
    (λ far. record {
      number = j.low -ℤ k -ℤ s +ℤ pos 1;
      from = omega (arith, ints);
      to = omega (arith, ints);
      after = omega (arith, ints);
      before = omega (arith, ints);
    })

-- a number of the stretch round which the interval is near
pub record IsNearOne (j : Interval) (u v h s : ℤ) : Type 0 where
  pub number : ℤ
  pub inside : HasNumber (stretch u v (pos 0)) number
  pub near : IsNear (around number h) j s

one_from : (j : Interval) (u v h s : ℤ) → IsNearBy j (int_min u v) (int_max u v) (pos (unsigned_abs h)) s → IsNearOne j u v h s
one_from j u v h s n =
    let w = n.number in
    let f = n.from in
    let t = n.to in
    record {
      number = w;
      inside = record { from = omega (arith, ints, clamps); to = omega (arith, ints, clamps) };
      near = record { after = n.after; before = n.before };
    }

in_order : (u v : ℤ) → int_min u v ≤ℤ int_max u v
in_order u v = omega (arith, ints, clamps)

not_zero : (h : ℤ) → pos 1 ≤ℤ h → pos 1 ≤ℤ pos (unsigned_abs h)
not_zero h p = omega (arith, ints)

near_one : (j : Interval) (u v h s : ℤ) → pos 1 ≤ℤ h → pos 1 ≤ℤ s → IsNear (stretch u v h) j s → IsNearOne j u v h s
near_one j u v h s p q n =
    one_from j u v h s (near_by j (int_min u v) (int_max u v) (pos (unsigned_abs h)) s (in_order u v) (not_zero h p) q n.after n.before)

-- a point of the centre line whose square is too close
pub record IsSquareTooClose (p q : Point) (h s : ℤ) (area : Rect) : Type 0 where
  pub point : Point
  pub inside : HasPoint (segment p q (pos 0)) point
  pub close : IsTooClose (square point h) area s

pub square_too_close : (p q : Point) (h s : ℤ) (area : Rect) → pos 1 ≤ℤ h → pos 1 ≤ℤ s → IsTooClose (segment p q h) area s → IsSquareTooClose p q h s area
square_too_close p q h s area a c t =
    let x = near_one _ p.x q.x h s a c t.across in
    let y = near_one _ p.y q.y h s a c t.up in
    record {
      point = record { x = x.number; y = y.number };
      inside = record { across = x.inside; up = y.inside };
      close = record { across = x.near; up = y.near };
    }

-- a wire lies on the board where the squares round its ends do
low_kept : (u v h : ℤ) → pos 0 ≤ℤ (u -ℤ h) → pos 0 ≤ℤ (v -ℤ h) → pos 0 ≤ℤ (int_min u v -ℤ h)
low_kept u v h a b = omega (arith, ints, clamps)

high_kept : (u v h top : ℤ) → (u +ℤ h) ≤ℤ top → (v +ℤ h) ≤ℤ top → (int_max u v +ℤ h) ≤ℤ top
high_kept u v h top a b = omega (arith, ints, clamps)

pub segment_on_board : (width height h : ℤ) (p q : Point) → IsOnBoard width height (square p h) → IsOnBoard width height (square q h) → IsOnBoard width height (segment p q h)
segment_on_board width height h p q a b =
    let k : ℤ = pos (unsigned_abs h) in
    record {
      left = low_kept p.x q.x k a.left b.left;
      below = low_kept p.y q.y k a.below b.below;
      right = high_kept p.x q.x k width a.right b.right;
      above = high_kept p.y q.y k height a.above b.above;
    }

stretch_last : (u v : ℤ) → HasNumber (stretch u v (pos 0)) v
stretch_last u v = record { from = omega (arith, ints, clamps); to = omega (arith, ints, clamps) }

-- the line has its end
pub line_last : (p q : Point) → HasPoint (segment p q (pos 0)) q
line_last p q = record { across = stretch_last p.x q.x; up = stretch_last p.y q.y }
