-- What a tiling is apart from its stitches: the labelled rectangles under their numbers, and how one of
-- them is cut in two or two of them are joined.
use Rattle.std.specs.Prelude.{pos, ◌≡◌, ◌≢◌, ◌+ℤ◌, ◌≤ℤ◌, ◌<ℤ◌, ℤ, Option, Some, None}
use Rattle.geo_rect.specs.declared.ids.Label.{Label}
use Rattle.geo_rect.specs.declared.shapes.Interval.{Interval}
use Rattle.geo_rect.specs.declared.shapes.Point.{Point}
use Rattle.geo_rect.specs.declared.shapes.Rect.{Rect}
use Rattle.geo_rect.specs.Plane.{columns, rows, HasPoint, LiesIn}
use Rattle.plane_core.specs.declared.strips.Strip.{Strip}
use Rattle.plane_core.specs.LocalForm.{HaveSameColumns}
use Rattle.tile_store.specs.declared.tiles.Tile.{Tile}
use Rattle.tile_store.specs.declared.tiles.TileId.{TileId}
use Rattle.tile_store.specs.Store.{Store, tile_at}

-- the area and the label of a tile
abbrev pub piece_of : Option Tile → Option Strip
piece_of None = None
piece_of (Some t) = Some (record { area = t.area; label = t.label })

-- the piece under a number, if there is one
abbrev pub piece_at : Store → TileId → Option Strip
piece_at s id = piece_of (tile_at s id)

-- the tile under the number has this area and this label
abbrev pub IsPiece : Store → TileId → Strip → Type 0
IsPiece s id p = piece_at s id ≡ Some p

-- a tile that has the point has the label
pub record HasLabel (s : Store) (at : Point) (label : Label) : Type 0 where
  pub by : TileId
  pub piece : Strip
  pub is_piece : IsPiece s by piece
  pub has_point : HasPoint piece.area at
  pub has_label : piece.label ≡ label

-- some tile has the point
pub record IsOfPiece (s : Store) (at : Point) : Type 0 where
  pub by : TileId
  pub piece : Strip
  pub is_piece : IsPiece s by piece
  pub has_point : HasPoint piece.area at

-- the pieces lie in the domain, no two have a common point, and each point of the domain is in one
pub record FillDomain (s : Store) (domain : Rect) : Type 0 where
  pub inside : (id : TileId) (p : Strip) → IsPiece s id p → LiesIn p.area domain
  pub apart : (i j : TileId) (p q : Strip) (at : Point) → IsPiece s i p → IsPiece s j q → HasPoint p.area at → HasPoint q.area at → i ≡ j
  pub covered : (at : Point) → HasPoint domain at → IsOfPiece s at

-- first and second follow one another and are whole together
pub record IsSplit (first second whole : Interval) : Type 0 where
  pub from : first.low ≡ whole.low
  pub next : second.low ≡ first.high +ℤ pos 1
  pub to : second.high ≡ whole.high

-- s and t have the same first and the same last row
pub record HaveSameRows (s t : Rect) : Type 0 where
  pub below : s.y0 ≡ t.y0
  pub above : s.y1 ≡ t.y1

-- upper stands right on lower, in the same columns, and together they are whole
pub record AreStacked (lower upper whole : Rect) : Type 0 where
  pub lower_columns : HaveSameColumns lower whole
  pub upper_columns : HaveSameColumns upper whole
  pub in_rows : IsSplit (rows lower) (rows upper) (rows whole)

-- right stands right beside left, in the same rows, and together they are whole
pub record AreInLine (left right whole : Rect) : Type 0 where
  pub left_rows : HaveSameRows left whole
  pub right_rows : HaveSameRows right whole
  pub in_columns : IsSplit (columns left) (columns right) (columns whole)

-- the piece under id was cut in two: the first part is under id now, and the second under other, which
-- was absent; under each other number there is what was there before
pub record IsCut (AreParts : Rect → Rect → Rect → Type 0) (old new : Store) (id other : TileId) : Type 0 where
  pub whole : Strip
  pub first : Strip
  pub second : Strip
  pub was : IsPiece old id whole
  pub was_absent : piece_at old other ≡ None
  pub first_is : IsPiece new id first
  pub second_is : IsPiece new other second
  pub parts : AreParts first.area second.area whole.area
  pub first_label : first.label ≡ whole.label
  pub second_label : second.label ≡ whole.label
  pub elsewhere : (n : TileId) → n ≢ id → n ≢ other → piece_at new n ≡ piece_at old n

-- the piece under id has rows before y, and it has y
pub record CanCutAtRow (s : Store) (id : TileId) (y : ℤ) : Type 0 where
  pub piece : Strip
  pub is_piece : IsPiece s id piece
  pub after_first : piece.area.y0 <ℤ y
  pub to_last : y ≤ℤ piece.area.y1

-- the piece under id has columns before x, and it has x
pub record CanCutAtColumn (s : Store) (id : TileId) (x : ℤ) : Type 0 where
  pub piece : Strip
  pub is_piece : IsPiece s id piece
  pub after_first : piece.area.x0 <ℤ x
  pub to_last : x ≤ℤ piece.area.x1

-- the pieces under id and under some other number have one label and are a rectangle together
pub record CanJoin (AreParts : Rect → Rect → Rect → Type 0) (s : Store) (id : TileId) : Type 0 where
  pub other : TileId
  pub first : Strip
  pub second : Strip
  pub whole : Rect
  pub first_is : IsPiece s id first
  pub second_is : IsPiece s other second
  pub parts : AreParts first.area second.area whole
  pub same_label : first.label ≡ second.label

-- the pieces under id and under some other number were joined under id; the other number is absent now
pub record IsJoined (AreParts : Rect → Rect → Rect → Type 0) (old new : Store) (id : TileId) : Type 0 where
  pub other : TileId
  pub as_cut : IsCut AreParts new old id other

-- the piece under id has this label now; its area and all else are as before
pub record IsRelabelled (old new : Store) (id : TileId) (label : Label) : Type 0 where
  pub piece : Strip
  pub was : IsPiece old id piece
  pub is_now : IsPiece new id (record { area = piece.area; label = label })
  pub elsewhere : (n : TileId) → n ≢ id → piece_at new n ≡ piece_at old n
