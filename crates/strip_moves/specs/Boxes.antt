-- Boxes on a board.
use Rattle.std.specs.Prelude.{◌<◌, length}
use Rattle.geo_rect.specs.declared.ids.Spot.{Spot}
use Rattle.geo_rect.specs.Plane.{IsBounded}
use Rattle.board_parts.specs.declared.parts.BoardParts.{BoardParts}
use Rattle.board_parts.specs.Rules.{IsOnBoard}

-- the box is on a layer of the board, and each point of it is one of the board
pub record IsBoardBox (b : BoardParts) (box : Spot) : Type 0 where
  pub layer : box.layer.0 < length b.layers
  pub area : IsOnBoard b.width b.height box.area

-- the coordinates of the box lie between -2^25 and 2^25
abbrev pub HasBoundedArea : Spot → Type 0
HasBoundedArea box = IsBounded box.area
