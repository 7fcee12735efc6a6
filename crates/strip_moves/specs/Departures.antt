-- What is known of an entry that a net leaves.
use Rattle.std.specs.Prelude.{◌+◌, ◌^◌, ◌<◌, ◌≤◌}
use Rattle.geo_rect.specs.declared.shapes.Rect.{Rect}
use Rattle.board_parts.specs.declared.limits.TheConstants.{MAX_SIDE, MAX_CHARGE}
use Rattle.board_parts.specs.Rules.{IsOnBoard}
use Rattle.strip_moves.specs.declared.departures.Departure.{Departure}

-- the points of the rectangle are some of a board of the greatest width and height
abbrev pub IsOnLargestBoard : Rect → Type 0
IsOnLargestBoard r = IsOnBoard MAX_SIDE MAX_SIDE r

-- the entry lies on a board, its cost leaves room for one more way, and no more is charged than for a via
pub record IsOpen (d : Departure) : Type 0 where
  pub strip : IsOnLargestBoard d.from.strip
  pub front : IsOnLargestBoard d.from.front
  pub cost : d.from.cost + 2 ^ 26 < 2 ^ 128
  pub charge : d.charge ≤ MAX_CHARGE
