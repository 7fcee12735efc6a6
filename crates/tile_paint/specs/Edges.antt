-- Where two pieces of one label stand side by side or one on the other, said by what is seen there: the
-- edge of a piece, its label, and how far it goes along the edge.
use Rattle.std.specs.Prelude.{ℤ, pos, ◌≡◌, ◌+ℤ◌}
use Rattle.geo_rect.specs.declared.ids.Label.{Label}
use Rattle.geo_rect.specs.Axis.{HasNumber}
use Rattle.geo_rect.specs.Plane.{rows}
use Rattle.plane_core.specs.declared.strips.Strip.{Strip}
use Rattle.tile_store.specs.declared.tiles.TileId.{TileId}
use Rattle.tile_store.specs.Store.{Store}
use Rattle.stitch_walk.specs.Pieces.{IsPiece}

-- in row y a piece of the label ends right before column x
pub record EndsBefore (s : Store) (x y : ℤ) (label : Label) : Type 0 where
  pub by : TileId
  pub piece : Strip
  pub is_piece : IsPiece s by piece
  pub has_label : piece.label ≡ label
  pub in_row : HasNumber (rows piece.area) y
  pub ends : x ≡ piece.area.x1 +ℤ pos 1

-- in row y a piece of the label begins with column x
pub record BeginsWith (s : Store) (x y : ℤ) (label : Label) : Type 0 where
  pub by : TileId
  pub piece : Strip
  pub is_piece : IsPiece s by piece
  pub has_label : piece.label ≡ label
  pub in_row : HasNumber (rows piece.area) y
  pub begins : x ≡ piece.area.x0

-- in row y, between column x and the one before, two pieces of one label are side by side
pub record IsSeam (s : Store) (x y : ℤ) : Type 0 where
  pub label : Label
  pub left : EndsBefore s x y label
  pub right : BeginsWith s x y label

-- a piece of the label has the columns from one to the other and ends right below row y
pub record EndsUnder (s : Store) (from to y : ℤ) (label : Label) : Type 0 where
  pub by : TileId
  pub piece : Strip
  pub is_piece : IsPiece s by piece
  pub has_label : piece.label ≡ label
  pub left : from ≡ piece.area.x0
  pub right : to ≡ piece.area.x1
  pub ends : y ≡ piece.area.y1 +ℤ pos 1

-- a piece of the label has the columns from one to the other and begins with row y
pub record BeginsOn (s : Store) (from to y : ℤ) (label : Label) : Type 0 where
  pub by : TileId
  pub piece : Strip
  pub is_piece : IsPiece s by piece
  pub has_label : piece.label ≡ label
  pub left : from ≡ piece.area.x0
  pub right : to ≡ piece.area.x1
  pub begins : y ≡ piece.area.y0

-- between row y and the one below, two pieces of one label and of these columns stand one on the other
pub record IsLedge (s : Store) (from to y : ℤ) : Type 0 where
  pub label : Label
  pub lower : EndsUnder s from to y label
  pub upper : BeginsOn s from to y label
