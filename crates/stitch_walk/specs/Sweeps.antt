-- How a sweep over an area comes from tile to tile: from the tile that has the lower left corner of
-- the area to each other one that meets it, over one step to the right or upwards.
use Rattle.std.specs.Prelude.{pos, ◌≡◌, ◌⊎◌, ◌-ℤ◌, ◌≤ℤ◌, ◌<ℤ◌, List, Contains, Option, Some, None}
use Rattle.std.specs.Int.{int_max}
use Rattle.geo_rect.specs.declared.shapes.Point.{Point}
use Rattle.geo_rect.specs.declared.shapes.Rect.{Rect}
use Rattle.geo_rect.specs.Plane.{HasPoint}
use Rattle.plane_core.specs.Choice.{Meets}
use Rattle.tile_store.specs.declared.tiles.Tile.{Tile}
use Rattle.tile_store.specs.declared.tiles.TileId.{TileId}
use Rattle.tile_store.specs.Store.{Store, tile_at}
use Rattle.stitch_walk.specs.Neighbours.{IsDistinct}

-- r begins right of the first column of the area, and p is left of the lowest point of its first
-- column in the area
pub record IsLeftEntry (area r : Rect) (p : Point) : Type 0 where
  pub begins_later : area.x0 <ℤ r.x0
  pub column : p.x ≡ r.x0 -ℤ pos 1
  pub row : p.y ≡ int_max r.y0 area.y0

-- r has the first column of the area, begins above its first row, and p is below r in that column
pub record IsLowerEntry (area r : Rect) (p : Point) : Type 0 where
  pub begins_first : r.x0 ≤ℤ area.x0
  pub begins_higher : area.y0 <ℤ r.y0
  pub column : p.x ≡ area.x0
  pub row : p.y ≡ r.y0 -ℤ pos 1

-- the point from which a sweep over the area enters r
abbrev pub IsEntry : Rect → Rect → Point → Type 0
IsEntry area r p = IsLeftEntry area r p ⊎ IsLowerEntry area r p

-- the entry of r, if there is one; with none, r begins where the area does or before it
abbrev pub IsEntryOf : Rect → Rect → Option Point → Type 0
IsEntryOf area r None = (r.x0 ≤ℤ area.x0) × (r.y0 ≤ℤ area.y0)
IsEntryOf area r (Some p) = IsEntry area r p

-- r meets the area, and t has its entry
pub record EntersFrom (area t r : Rect) : Type 0 where
  pub meets : Meets r area
  pub entry : Point
  pub is_entry : IsEntry area r entry
  pub has_entry : HasPoint t entry

-- a sweep over the area enters the tile under j from that under i
pub record IsNext (s : Store) (area : Rect) (i j : TileId) : Type 0 where
  pub tile : Tile
  pub is_there : tile_at s i ≡ Some tile
  pub next : Tile
  pub next_is_there : tile_at s j ≡ Some next
  pub enters : EntersFrom area tile.area next.area

-- found lists, each once, those of the near tiles that a sweep enters from the tile under id
pub record AreEntered (s : Store) (area : Rect) (id : TileId) (near found : List TileId) : Type 0 where
  pub near_by : (j : TileId) → Contains found j → Contains near j
  pub entered : (j : TileId) → Contains found j → IsNext s area id j
  pub complete : (j : TileId) → Contains near j → IsNext s area id j → Contains found j
  pub once : IsDistinct found

-- found lists, each once, all tiles that a sweep enters from the tile under id
pub record AreAllEntered (s : Store) (area : Rect) (id : TileId) (found : List TileId) : Type 0 where
  pub entered : (j : TileId) → Contains found j → IsNext s area id j
  pub complete : (j : TileId) → IsNext s area id j → Contains found j
  pub once : IsDistinct found
