-- Tilings that are linked but for the stitches that lead into one tile, and how these are mended.
use Rattle.std.specs.Prelude.{◌≡◌, ◌⊎◌, Option, Some}
use Rattle.geo_rect.specs.declared.ids.Label.{Label}
use Rattle.geo_rect.specs.declared.shapes.Rect.{Rect}
use Rattle.geo_rect.specs.Plane.{HasPoint}
use Rattle.plane_core.specs.declared.sides.Side.{Side}
use Rattle.plane_core.specs.declared.sides.Side.TheVariants.{Left, Below, Right, Above}
use Rattle.plane_core.specs.Labels.{IsSmall}
use Rattle.tile_store.specs.declared.tiles.Tile.{Tile}
use Rattle.tile_store.specs.declared.tiles.TileId.{TileId}
use Rattle.tile_store.specs.Store.{Store, tile_at}
use Rattle.stitch_walk.specs.Links.{stitch, stitch_point, LeadsTo}
use Rattle.stitch_walk.specs.Pieces.{piece_at, IsPiece, FillDomain}

-- the tile with another stitch on this side
abbrev pub with_stitch : Side → Option TileId → Tile → Tile
with_stitch Left o t = record t { bl = o }
with_stitch Below o t = record t { lb = o }
with_stitch Right o t = record t { tr = o }
with_stitch Above o t = record t { rt = o }

-- the tile under the number has this area
pub record HasArea (s : Store) (id : TileId) (area : Rect) : Type 0 where
  pub label : Label
  pub is_piece : IsPiece s id (record { area = area; label = label })

-- the tiles fill the domain, and each stitch leads where it should, or it should lead to the tile under
-- id, which has this area
pub record IsLinkedBut (s : Store) (domain : Rect) (id : TileId) (area : Rect) : Type 0 where
  pub here : HasArea s id area
  pub small : IsSmall domain
  pub filled : FillDomain s domain
  pub stitched : (side : Side) (n : TileId) (t : Tile) → tile_at s n ≡ Some t → HasPoint area (stitch_point side t.area) ⊎ LeadsTo s domain (stitch_point side t.area) (stitch side t)

-- the stitch of u on this side is that of t, or it should lead into the area and names id
abbrev pub IsStitchMended : TileId → Rect → Side → Tile → Tile → Type 0
IsStitchMended id area side t u = (stitch side u ≡ stitch side t) ⊎ (HasPoint area (stitch_point side t.area) × (stitch side u ≡ Some id))

-- only stitches that should lead into the area have changed, and each that has changed names id
pub record IsMended (old new : Store) (id : TileId) (area : Rect) : Type 0 where
  pub pieces : (n : TileId) → piece_at new n ≡ piece_at old n
  pub stitches : (side : Side) (n : TileId) (t u : Tile) → tile_at old n ≡ Some t → tile_at new n ≡ Some u → IsStitchMended id area side t u

-- each stitch on this side that should lead into the area names id
abbrev pub AllName : Store → TileId → Rect → Side → Type 0
AllName s id area side = (n : TileId) (t : Tile) → tile_at s n ≡ Some t → HasPoint area (stitch_point side t.area) → stitch side t ≡ Some id
