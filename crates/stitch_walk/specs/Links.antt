-- Linked tilings: tiles under numbers that fill a rectangle, each with the numbers of four others next to it.
use Rattle.std.specs.Prelude.{pos, ◌≡◌, ◌≢◌, ◌+ℤ◌, ◌-ℤ◌, Option, Some, None}
use Rattle.geo_rect.specs.declared.ids.Label.TheVariants.{Free}
use Rattle.geo_rect.specs.declared.shapes.Point.{Point}
use Rattle.geo_rect.specs.declared.shapes.Rect.{Rect}
use Rattle.geo_rect.specs.Plane.{HasPoint, LiesIn}
use Rattle.plane_core.specs.declared.sides.Side.{Side}
use Rattle.plane_core.specs.declared.sides.Side.TheVariants.{Left, Below, Right, Above}
use Rattle.plane_core.specs.Labels.{IsSmall}
use Rattle.tile_store.specs.declared.tiles.Tile.{Tile}
use Rattle.tile_store.specs.declared.tiles.TileId.{TileId}
use Rattle.tile_store.specs.Store.{Store, tile_at}

-- the tile under the number has the point
pub record Holds (s : Store) (id : TileId) (p : Point) : Type 0 where
  pub tile : Tile
  pub is_there : tile_at s id ≡ Some tile
  pub has_point : HasPoint tile.area p

-- the stitch of a tile on a side
abbrev pub stitch : Side → Tile → Option TileId
stitch Left t = t.bl
stitch Below t = t.lb
stitch Right t = t.tr
stitch Above t = t.rt

-- the point that the tile of a stitch has: one step from the lower left corner for the sides left
-- and below, and from the upper right corner for the sides right and above
abbrev pub stitch_point : Side → Rect → Point
stitch_point Left r = record { x = r.x0 -ℤ pos 1; y = r.y0 }
stitch_point Below r = record { x = r.x0; y = r.y0 -ℤ pos 1 }
stitch_point Right r = record { x = r.x1 +ℤ pos 1; y = r.y1 }
stitch_point Above r = record { x = r.x1; y = r.y1 +ℤ pos 1 }

-- the stitch names the tile that has the point; it is absent where the domain does not have the point
abbrev pub LeadsTo : Store → Rect → Point → Option TileId → Type 0
LeadsTo s domain p None = ¬ HasPoint domain p
LeadsTo s domain p (Some id) = Holds s id p

-- the number of a tile that has the point
pub record IsHeld (s : Store) (p : Point) : Type 0 where
  pub by : TileId
  pub holds : Holds s by p

-- the tiles fill the domain, no two have a common point, and their stitches lead where they should
pub record IsLinked (s : Store) (domain : Rect) : Type 0 where
  pub inside : (id : TileId) (t : Tile) → tile_at s id ≡ Some t → LiesIn t.area domain
  pub apart : (i j : TileId) (p : Point) → Holds s i p → Holds s j p → i ≡ j
  pub covered : (p : Point) → HasPoint domain p → IsHeld s p
  pub stitched : (side : Side) (id : TileId) (t : Tile) → tile_at s id ≡ Some t → LeadsTo s domain (stitch_point side t.area) (stitch side t)

-- what contracts see of a tiling: its tiles, and the rectangle that they fill
pub record Tiles : Type 0 where
  pub store : Store
  pub domain : Rect

-- the tiles are linked, and coordinates lie between -2^24 and 2^24
pub record IsTiling (s : Store) (domain : Rect) : Type 0 where
  pub linked : IsLinked s domain
  pub small : IsSmall domain

-- the free tile that fills the domain alone
abbrev pub whole_tile : Rect → Tile
whole_tile domain = record { area = domain; label = Free; bl = None; lb = None; tr = None; rt = None }

-- this is the only tile
pub record IsOnlyTile (s : Store) (t : Tile) : Type 0 where
  pub id : TileId
  pub is_there : tile_at s id ≡ Some t
  pub alone : (other : TileId) → other ≢ id → tile_at s other ≡ None
