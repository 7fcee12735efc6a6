-- What holds between the steps of painting: how far the tiles around the area are maximal already.
use Rattle.std.specs.Prelude.{ℤ, pos, ◌≡◌, ◌⊎◌, ◌+ℤ◌, ◌-ℤ◌, ◌≤ℤ◌, List, Contains}
use Rattle.geo_rect.specs.declared.ids.Label.{Label}
use Rattle.geo_rect.specs.declared.shapes.Point.{Point}
use Rattle.geo_rect.specs.declared.shapes.Rect.{Rect}
use Rattle.geo_rect.specs.Axis.{HasNumber}
use Rattle.geo_rect.specs.Plane.{columns, HasPoint, LiesIn}
use Rattle.plane_core.specs.declared.strips.Strip.{Strip}
use Rattle.plane_core.specs.Choice.{Meets}
use Rattle.plane_core.specs.LocalForm.{HaveSameColumns}
use Rattle.tile_store.specs.declared.tiles.TileId.{TileId}
use Rattle.tile_store.specs.Store.{Store}
use Rattle.stitch_walk.specs.Pieces.{IsPiece, HasLabel}
use Rattle.stitch_walk.specs.Neighbours.{IsDistinct}
use Rattle.tile_paint.specs.declared.spots.Found.{Found}
use Rattle.tile_paint.specs.Edges.{IsSeam, IsLedge}
use Rattle.tile_paint.specs.Changes.{IsPainted}

-- r has a column of the area, or one next to it
pub record Touches (area r : Rect) : Type 0 where
  pub left : r.x0 ≤ℤ (area.x1 +ℤ pos 1)
  pub right : area.x0 ≤ℤ (r.x1 +ℤ pos 1)

-- a row of the area from row a on, and a column of the area or the one after it
pub record IsSeamFrom (area : Rect) (a x y : ℤ) : Type 0 where
  pub from : a ≤ℤ y
  pub to : y ≤ℤ area.y1
  pub left : area.x0 ≤ℤ x
  pub right : x ≤ℤ (area.x1 +ℤ pos 1)

-- a row of the area from row a on, or the one after it, and columns that touch the area
pub record IsLedgeFrom (area : Rect) (a first last y : ℤ) : Type 0 where
  pub from : a ≤ℤ y
  pub to : y ≤ℤ (area.y1 +ℤ pos 1)
  pub left : first ≤ℤ (area.x1 +ℤ pos 1)
  pub right : area.x0 ≤ℤ (last +ℤ pos 1)

-- seams and ledges are only in the rows from row a on, at the area
pub record IsOpenFrom (s : Store) (area : Rect) (a : ℤ) : Type 0 where
  pub seams : (x y : ℤ) → IsSeam s x y → IsSeamFrom area a x y
  pub ledges : (first last y : ℤ) → IsLedge s first last y → IsLedgeFrom area a first last y

-- r has a point of the area in the rows from row a on
pub record MeetsFrom (area : Rect) (a : ℤ) (r : Rect) : Type 0 where
  pub meets_at : Point
  pub in_first : HasPoint r meets_at
  pub in_second : HasPoint area meets_at
  pub from : a ≤ℤ meets_at.y

-- r lies in the area, in the rows from row a on
pub record IsInnerFrom (area : Rect) (a : ℤ) (r : Rect) : Type 0 where
  pub inside : LiesIn r area
  pub from : a ≤ℤ r.y0

-- each piece that has a point of the area in the rows from row a on lies there
abbrev pub AreInnerFrom : Store → Rect → ℤ → Type 0
AreInnerFrom s area a = (n : TileId) (q : Strip) → IsPiece s n q → MeetsFrom area a q.area → IsInnerFrom area a q.area

-- each point of the area has the label
abbrev pub AreaHasLabel : Store → Rect → Label → Type 0
AreaHasLabel s area label = (p : Point) → HasPoint area p → HasLabel s p label

-- the area is painted, and below row a all is maximal
pub record IsReadyFrom (s : Store) (area : Rect) (label : Label) (a : ℤ) : Type 0 where
  pub open_from : IsOpenFrom s area a
  pub inner : AreInnerFrom s area a
  pub painted : AreaHasLabel s area label

-- some rows of the area, in all its columns
pub record IsBandOf (area band : Rect) : Type 0 where
  pub left : band.x0 ≡ area.x0
  pub right : band.x1 ≡ area.x1
  pub from : area.y0 ≤ℤ band.y0
  pub to : band.y1 ≤ℤ area.y1

-- each piece that has a point in the first row of the band, or right beside it, goes on to its last row
abbrev pub AreTall : Store → Rect → Type 0
AreTall s band = (n : TileId) (q : Strip) (p : Point) → IsPiece s n q → HasPoint q.area p → p.y ≡ band.y0 → (band.x0 -ℤ pos 1) ≤ℤ p.x → p.x ≤ℤ (band.x1 +ℤ pos 1) → band.y1 ≤ℤ q.area.y1

-- the point of column x in the first row of the band
abbrev pub foot : Rect → ℤ → Point
foot band x = record { x = x; y = band.y0 }

-- part has the columns and the first row of the band, and goes no higher than a piece that has the point
pub record IsCapped (s : Store) (band : Rect) (p : Point) (part : Rect) : Type 0 where
  pub columns : HaveSameColumns part band
  pub low : part.y0 ≡ band.y0
  pub high : part.y1 ≤ℤ band.y1
  pub below : (n : TileId) (q : Strip) → IsPiece s n q → HasPoint q.area p → part.y1 ≤ℤ q.area.y1

-- from is the column left of the band if that has the label in the band's first row, and else the band's first
abbrev pub IsLeftEnd : Store → Rect → Label → ℤ → Type 0
IsLeftEnd s band label from = ((from ≡ band.x0 -ℤ pos 1) × HasLabel s (foot band (band.x0 -ℤ pos 1)) label) ⊎ ((from ≡ band.x0) × ¬ HasLabel s (foot band (band.x0 -ℤ pos 1)) label)

-- to is the column right of the band if that has the label in the band's first row, and else the band's last
abbrev pub IsRightEnd : Store → Rect → Label → ℤ → Type 0
IsRightEnd s band label to = ((to ≡ band.x1 +ℤ pos 1) × HasLabel s (foot band (band.x1 +ℤ pos 1)) label) ⊎ ((to ≡ band.x1) × ¬ HasLabel s (foot band (band.x1 +ℤ pos 1)) label)

-- wide has the rows of the band, its columns, and that left of it where the label goes on
pub record IsWidenedLeft (s : Store) (band : Rect) (label : Label) (wide : Rect) : Type 0 where
  pub low : wide.y0 ≡ band.y0
  pub high : wide.y1 ≡ band.y1
  pub left : IsLeftEnd s band label wide.x0
  pub right : wide.x1 ≡ band.x1

-- wide has the rows of the band, its columns, and those next to it where the label goes on
pub record IsWidened (s : Store) (band : Rect) (label : Label) (wide : Rect) : Type 0 where
  pub low : wide.y0 ≡ band.y0
  pub high : wide.y1 ≡ band.y1
  pub left : IsLeftEnd s band label wide.x0
  pub right : IsRightEnd s band label wide.x1

-- wide has the columns of the band, and at most those next to it
pub record IsWide (band wide : Rect) : Type 0 where
  pub from_left : (band.x0 -ℤ pos 1) ≤ℤ wide.x0
  pub begins : wide.x0 ≤ℤ band.x0
  pub ends : band.x1 ≤ℤ wide.x1
  pub to_right : wide.x1 ≤ℤ (band.x1 +ℤ pos 1)

-- the pieces of the band are joined from its left end as far as the piece that is found
pub record IsJoining (s : Store) (area band : Rect) (label : Label) (wide : Rect) (joined : Found) : Type 0 where
  pub is_piece : IsPiece s joined.id joined.piece
  pub has_label : joined.piece.label ≡ label
  pub low : joined.piece.area.y0 ≡ band.y0
  pub high : joined.piece.area.y1 ≡ band.y1
  pub begins : joined.piece.area.x0 ≤ℤ wide.x0
  pub reaches : wide.x0 ≤ℤ joined.piece.area.x1
  pub open_from : IsOpenFrom s area band.y0
  pub tall : AreTall s band
  pub inner : (n : TileId) (q : Strip) → IsPiece s n q → MeetsFrom area band.y0 q.area → (n ≡ joined.id) ⊎ IsInnerFrom area band.y0 q.area
  pub labelled : (x : ℤ) → HasNumber (columns wide) x → HasLabel s (foot band x) label

-- the band is joined: no seam is left in its rows, and ledges at its first row alone
pub record IsBandJoined (s : Store) (area band : Rect) : Type 0 where
  pub seams : (x y : ℤ) → IsSeam s x y → IsSeamFrom area (band.y1 +ℤ pos 1) x y
  pub ledges : (first last y : ℤ) → IsLedge s first last y → IsLedgeFrom area band.y0 first last y
  pub rows_of_ledges : (first last y : ℤ) → IsLedge s first last y → (y ≡ band.y0) ⊎ ((band.y1 +ℤ pos 1) ≤ℤ y)
  pub inner : AreInnerFrom s area (band.y1 +ℤ pos 1)

-- the piece under the number meets the area
pub record MeetsUnder (s : Store) (area : Rect) (n : TileId) : Type 0 where
  pub piece : Strip
  pub is_piece : IsPiece s n piece
  pub meets : Meets piece.area area

-- the pieces that meet the area are cut out but for those under the numbers that wait
pub record IsCuttingOut (old s : Store) (area : Rect) (label : Label) (waiting : List TileId) : Type 0 where
  pub open_from : IsOpenFrom s area area.y0
  pub outside : (p : Point) (was : Label) → ¬ HasPoint area p → HasLabel old p was → HasLabel s p was
  pub still : (n : TileId) → Contains waiting n → MeetsUnder s area n
  pub meeting : (n : TileId) (q : Strip) → IsPiece s n q → Meets q.area area → IsPainted area label q ⊎ Contains waiting n
  pub once : IsDistinct waiting
