-- What a step of painting leaves as it is.
use Rattle.std.specs.Prelude.{ℤ, pos, ◌≡◌, ◌≢◌, ◌⊎◌, ◌≤ℤ◌, ◌-ℤ◌, ◌+ℤ◌}
use Rattle.std.specs.Int.{int_max, int_min}
use Rattle.geo_rect.specs.declared.ids.Label.{Label}
use Rattle.geo_rect.specs.declared.shapes.Point.{Point}
use Rattle.geo_rect.specs.declared.shapes.Rect.{Rect}
use Rattle.geo_rect.specs.Plane.{HasPoint, LiesIn}
use Rattle.plane_core.specs.declared.strips.Strip.{Strip}
use Rattle.plane_core.specs.Choice.{Meets}
use Rattle.plane_core.specs.LocalForm.{HaveSameColumns}
use Rattle.tile_store.specs.declared.tiles.TileId.{TileId}
use Rattle.tile_store.specs.Store.{Store}
use Rattle.stitch_walk.specs.Pieces.{IsPiece, HasLabel, HaveSameRows}
use Rattle.tile_paint.specs.declared.spots.Found.{Found}
use Rattle.tile_paint.specs.Edges.{IsSeam, IsLedge}

-- each point has the label that it had
pub record HaveSameLabels (old new : Store) : Type 0 where
  pub onward : (p : Point) (label : Label) → HasLabel old p label → HasLabel new p label
  pub back : (p : Point) (label : Label) → HasLabel new p label → HasLabel old p label

-- this is the piece under n, which is another number than id
pub record IsOther (s : Store) (id n : TileId) (q : Strip) : Type 0 where
  pub other : n ≢ id
  pub is_piece : IsPiece s n q

-- the piece that was found was cut, and of its parts one is found now
pub record IsNarrowed (old new : Store) (before after : Found) : Type 0 where
  pub labels : HaveSameLabels old new
  pub kept : (n : TileId) (q : Strip) → n ≢ before.id → IsPiece old n q → IsOther new after.id n q
  pub parts : (n : TileId) (q : Strip) → IsPiece new n q → IsOther old before.id n q ⊎ LiesIn q.area before.piece.area
  pub part : LiesIn after.piece.area before.piece.area
  pub is_piece : IsPiece new after.id after.piece
  pub same_label : after.piece.label ≡ before.piece.label

-- r without what lies below row y
pub record IsFrom (y : ℤ) (r part : Rect) : Type 0 where
  pub columns : HaveSameColumns part r
  pub low : part.y0 ≡ int_max r.y0 y
  pub high : part.y1 ≡ r.y1

-- r without what lies above row y
pub record IsUpTo (y : ℤ) (r part : Rect) : Type 0 where
  pub columns : HaveSameColumns part r
  pub low : part.y0 ≡ r.y0
  pub high : part.y1 ≡ int_min r.y1 y

-- r without what lies left of column x
pub record IsRightFrom (x : ℤ) (r part : Rect) : Type 0 where
  pub rows : HaveSameRows part r
  pub low : part.x0 ≡ int_max r.x0 x
  pub high : part.x1 ≡ r.x1

-- r without what lies right of column x
pub record IsLeftUpTo (x : ℤ) (r part : Rect) : Type 0 where
  pub rows : HaveSameRows part r
  pub low : part.x0 ≡ r.x0
  pub high : part.x1 ≡ int_min r.x1 x

-- what of r lies in the rows of the band
pub record IsFitted (band r part : Rect) : Type 0 where
  pub columns : HaveSameColumns part r
  pub low : part.y0 ≡ int_max r.y0 band.y0
  pub high : part.y1 ≡ int_min r.y1 band.y1

-- q is a piece of the area with the label
pub record IsPainted (area : Rect) (label : Label) (q : Strip) : Type 0 where
  pub inside : LiesIn q.area area
  pub has_label : q.label ≡ label

-- the part of the piece under id that lies in the area was cut out and has the label; what lies outside
-- of the area has its label as before, and what stands under other numbers stays
pub record IsCutOut (old new : Store) (area : Rect) (label : Label) (id : TileId) : Type 0 where
  pub outside : (p : Point) (was : Label) → ¬ HasPoint area p → HasLabel old p was → HasLabel new p was
  pub kept : (n : TileId) (q : Strip) → n ≢ id → IsPiece old n q → IsPiece new n q
  pub meeting : (n : TileId) (q : Strip) → IsPiece new n q → Meets q.area area → IsPainted area label q ⊎ IsOther old id n q

-- a piece that was joined with what stood below row y, or is as it was
pub record IsGrownDown (old : Store) (y : ℤ) (q : Strip) : Type 0 where
  pub by : TileId
  pub was : Strip
  pub is_piece : IsPiece old by was
  pub columns : HaveSameColumns q.area was.area
  pub high : q.area.y1 ≡ was.area.y1
  pub low : (q.area.y0 ≡ was.area.y0) ⊎ (was.area.y0 ≡ y)

-- lower and upper have one label and the same columns
pub record AreAlike (lower upper : Strip) : Type 0 where
  pub same_label : lower.label ≡ upper.label
  pub same_columns : HaveSameColumns lower.area upper.area

-- at most pieces that begin with row y were joined with the pieces below them; there was a ledge wherever
-- there is one, and a seam
pub record AreJoinedAt (old new : Store) (y : ℤ) : Type 0 where
  pub labels : HaveSameLabels old new
  pub seams : (x z : ℤ) → IsSeam new x z → IsSeam old x z
  pub ledges : (from to z : ℤ) → IsLedge new from to z → IsLedge old from to z
  pub pieces : (n : TileId) (q : Strip) → IsPiece new n q → IsGrownDown old y q

-- no ledge at row y has column x
abbrev pub HasNoLedgeAt : Store → ℤ → ℤ → Type 0
HasNoLedgeAt s x y = (from to : ℤ) → IsLedge s from to y → from ≤ℤ x → x ≤ℤ to → ⊥

-- along the lower edge of the row no ledge has a column next to its ends, or its first one
pub record IsFreeOfLedges (s : Store) (row : Rect) : Type 0 where
  pub before : HasNoLedgeAt s (row.x0 -ℤ pos 1) row.y0
  pub at_first : HasNoLedgeAt s row.x0 row.y0
  pub after : HasNoLedgeAt s (row.x1 +ℤ pos 1) row.y0
