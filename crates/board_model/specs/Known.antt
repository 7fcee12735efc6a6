-- What every shape of a board has.
use Rattle.std.specs.Prelude.{◌<◌, ◌≤ℤ◌, ◌^◌, ◌+◌, pos, length}
use Rattle.std.proofs.Common.{neg_ℤ}
use Rattle.geo_rect.specs.declared.shapes.Interval.{Interval}
use Rattle.geo_rect.specs.declared.shapes.Rect.{Rect}
use Rattle.geo_rect.specs.Plane.{columns, rows}
use Rattle.board_parts.specs.declared.parts.BoardParts.{BoardParts}
use Rattle.board_parts.specs.Owners.{IsOwner}
use Rattle.board_model.specs.declared.shapes.Shape.{Shape}

-- the interval lies between -(2^24 + 2^16) and 2^24 + 2^16
pub record IsNearZero (i : Interval) : Type 0 where
  pub from : neg_ℤ (pos (2 ^ 24 + 2 ^ 16)) ≤ℤ i.low
  pub to : i.high ≤ℤ pos (2 ^ 24 + 2 ^ 16)

-- the coordinates of the rectangle lie between -(2^24 + 2^16) and 2^24 + 2^16: farther than any wire or
-- via reaches whose middle lies between -2^24 and 2^24
pub record IsNearOrigin (r : Rect) : Type 0 where
  pub across : IsNearZero (columns r)
  pub up : IsNearZero (rows r)

-- the shape stands on a layer of the board, its owner is a net of the board, or no net, and its area
-- lies near the origin
pub record IsKnown (b : BoardParts) (s : Shape) : Type 0 where
  pub layer : s.layer.0 < length b.layers
  pub owner : IsOwner b s.owner
  pub area : IsNearOrigin s.area
