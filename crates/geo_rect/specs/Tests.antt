-- Tests that compute the facts of Axis and Plane, for lists that are kept by a test.
use Rattle.std.specs.Prelude.{ℤ, ◌+ℤ◌, int_lt, int_le, Bool, ◌&&◌}
use Rattle.geo_rect.specs.declared.shapes.Interval.{Interval}
use Rattle.geo_rect.specs.declared.shapes.Rect.{Rect}
use Rattle.geo_rect.specs.Plane.{columns, rows}

-- whether what separates the two is less than s
abbrev pub are_near : Interval → Interval → ℤ → Bool
are_near a b s = int_lt b.low (a.high +ℤ s) && int_lt a.low (b.high +ℤ s)

-- whether both separations are less than s
abbrev pub are_too_close : Rect → Rect → ℤ → Bool
are_too_close a b s = are_near (columns a) (columns b) s && are_near (rows a) (rows b) s

-- whether every number of a is one of b
abbrev pub lies_within : Interval → Interval → Bool
lies_within a b = int_le b.low a.low && int_le a.high b.high

-- whether each point of a is one of b
abbrev pub lies_in : Rect → Rect → Bool
lies_in a b = lies_within (columns a) (columns b) && lies_within (rows a) (rows b)
