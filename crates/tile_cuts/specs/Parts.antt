-- Two tiles that are put in the place of one, and one that is put in the place of two.
use Rattle.std.specs.Prelude.{◌≡◌, ◌≢◌, ◌⊎◌, Some, None}
use Rattle.geo_rect.specs.declared.shapes.Point.{Point}
use Rattle.geo_rect.specs.declared.shapes.Rect.{Rect}
use Rattle.geo_rect.specs.Plane.{HasPoint}
use Rattle.plane_core.specs.declared.sides.Side.{Side}
use Rattle.plane_core.specs.declared.sides.Side.TheVariants.{Left, Below, Right, Above}
use Rattle.tile_store.specs.declared.tiles.Tile.{Tile}
use Rattle.tile_store.specs.declared.tiles.TileId.{TileId}
use Rattle.tile_store.specs.Store.{Store, tile_at}
use Rattle.plane_core.specs.declared.strips.Strip.{Strip}
use Rattle.stitch_walk.specs.Links.{stitch, stitch_point, LeadsTo, Tiles}
use Rattle.stitch_walk.specs.Pieces.{piece_at, IsPiece}

-- first and second have exactly the points of whole, and no point is in both; first has the lower left
-- corner of whole, and second its upper right one
pub record ArePartsOf (first second whole : Rect) : Type 0 where
  pub in_first : (p : Point) → HasPoint first p → HasPoint whole p
  pub in_second : (p : Point) → HasPoint second p → HasPoint whole p
  pub in_either : (p : Point) → HasPoint whole p → HasPoint first p ⊎ HasPoint second p
  pub in_one : (p : Point) → HasPoint first p → HasPoint second p → ⊥
  pub on_left : stitch_point Left first ≡ stitch_point Left whole
  pub below : stitch_point Below first ≡ stitch_point Below whole
  pub on_right : stitch_point Right second ≡ stitch_point Right whole
  pub above : stitch_point Above second ≡ stitch_point Above whole

-- the tile under id is to be cut into first and second: their stitches lead where they should in the
-- tiling as it is, those of first may lead into second anyhow, and those of second into first name id
pub record IsCutInto (tiles : Tiles) (id : TileId) (first second : Tile) : Type 0 where
  pub whole : Tile
  pub is_there : tile_at tiles.store id ≡ Some whole
  pub parts : ArePartsOf first.area second.area whole.area
  pub first_stitched : (side : Side) → HasPoint second.area (stitch_point side first.area) ⊎ LeadsTo tiles.store tiles.domain (stitch_point side first.area) (stitch side first)
  pub second_stitched : (side : Side) → (HasPoint first.area (stitch_point side second.area) × (stitch side second ≡ Some id)) ⊎ LeadsTo tiles.store tiles.domain (stitch_point side second.area) (stitch side second)

-- first stands under id now, and second under other, which was absent; all else is as before
pub record IsReplaced (old new : Store) (id other : TileId) (first second : Strip) : Type 0 where
  pub was_absent : piece_at old other ≡ None
  pub first_is : IsPiece new id first
  pub second_is : IsPiece new other second
  pub elsewhere : (n : TileId) → n ≢ id → n ≢ other → piece_at new n ≡ piece_at old n

-- the pieces under id and other have one label and are a rectangle together
pub record AreJoinable (s : Store) (id other : TileId) : Type 0 where
  pub first : Strip
  pub second : Strip
  pub whole : Rect
  pub first_is : IsPiece s id first
  pub second_is : IsPiece s other second
  pub parts : ArePartsOf first.area second.area whole
  pub same_label : first.label ≡ second.label

-- the pieces under id and other were joined under id, and other is absent; all else is as before
pub record AreJoined (old new : Store) (id other : TileId) : Type 0 where
  pub first : Strip
  pub second : Strip
  pub whole : Rect
  pub split : IsReplaced new old id other first second
  pub parts : ArePartsOf first.area second.area whole
  pub whole_is : IsPiece new id (record { area = whole; label = first.label })
