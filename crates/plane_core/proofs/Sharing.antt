-- Intervals and rectangles that have something in common.
use Rattle.std.proofs.Common.{pos, ◌-ℤ◌, ◌≤ℤ◌, arith}
use Rattle.std.proofs.lemmas.Int.{ints, by_lt_z}
use Rattle.geo_rect.specs.declared.shapes.Interval.{Interval}
use Rattle.geo_rect.specs.declared.shapes.Rect.{Rect}
use Rattle.geo_rect.specs.Axis.{HasNumber}
use Rattle.geo_rect.specs.Plane.{columns, rows}
use Rattle.plane_core.specs.Choice.{Meets}
use Rattle.plane_core.specs.Sides.{HaveCommon, IsLeftOf}

pub common_from_ends : (i j : Interval) → i.low ≤ℤ j.high → j.low ≤ℤ i.high → HaveCommon i j
common_from_ends i j p q =
    let oi = i.ordered in let oj = j.ordered in
    by_lt_z i.low j.low
    (λ less. record {
      number = j.low;
      in_first = record { from = omega (arith, ints); to = omega (arith, ints) };
      in_second = record { from = omega (arith, ints); to = omega (arith, ints) };
    })
    (λ more. record {
      number = i.low;
      in_first = record { from = omega (arith, ints); to = omega (arith, ints) };
      in_second = record { from = omega (arith, ints); to = omega (arith, ints) };
    })

pub left_of_from_parts : (s t : Rect) → HasNumber (columns s) (t.x0 -ℤ pos 1) → HaveCommon (rows s) (rows t) → IsLeftOf s t
left_of_from_parts s t h c = record {
  at = record { x = t.x0 -ℤ pos 1; y = c.number };
  past_edge = omega (arith, ints);
  in_row = c.in_second;
  in_first = record { across = h; up = c.in_first };
}

pub meets_from_parts : (a b : Rect) → HaveCommon (columns a) (columns b) → HaveCommon (rows a) (rows b) → Meets a b
meets_from_parts a b c r = record {
  at = record { x = c.number; y = r.number };
  in_first = record { across = c.in_first; up = r.in_first };
  in_second = record { across = c.in_second; up = r.in_second };
}
