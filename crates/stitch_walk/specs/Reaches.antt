-- Where a point lies beside a tile. A side is turned to the left in all of these.
use Rattle.std.specs.Prelude.{pos, ◌≡◌, ◌+ℤ◌, ◌-ℤ◌, ◌≤ℤ◌, ◌<ℤ◌, Some}
use Rattle.geo_rect.specs.declared.shapes.Point.{Point}
use Rattle.geo_rect.specs.declared.shapes.Rect.{Rect}
use Rattle.geo_rect.specs.Axis.{HasNumber}
use Rattle.geo_rect.specs.Plane.{rows}
use Rattle.plane_core.specs.declared.sides.Side.{Side}
use Rattle.plane_core.specs.declared.sides.Side.TheVariants.{Left, Below, Right, Above}
use Rattle.plane_core.specs.Sides.{turned, turned_point}
use Rattle.tile_store.specs.declared.tiles.Tile.{Tile}
use Rattle.tile_store.specs.declared.tiles.TileId.{TileId}
use Rattle.tile_store.specs.Store.{Store, tile_at}

-- the other side
abbrev pub opposite : Side → Side
opposite Left = Right
opposite Below = Above
opposite Right = Left
opposite Above = Below

-- the side on which a tile's neighbour has the stitch to the next neighbour
abbrev pub following : Side → Side
following Left = Above
following Below = Right
following Right = Below
following Above = Left

-- the point right past the edge of r on this side, in the row or column of p that crosses the edge
abbrev pub beside_point : Side → Rect → Point → Point
beside_point Left r p = record { x = r.x0 -ℤ pos 1; y = p.y }
beside_point Below r p = record { x = p.x; y = r.y0 -ℤ pos 1 }
beside_point Right r p = record { x = r.x1 +ℤ pos 1; y = p.y }
beside_point Above r p = record { x = p.x; y = r.y1 +ℤ pos 1 }

-- r ends before it comes to p, along this side
abbrev pub EndsShort : Side → Rect → Point → Type 0
EndsShort side r p = (turned side r).y1 <ℤ (turned_point side p).y

-- r begins after p, from this side
abbrev pub BeginsAfter : Side → Rect → Point → Type 0
BeginsAfter side r p = (turned_point side p).x <ℤ (turned side r).x0

-- a line from p across this side meets the tile under the number
pub record IsLevel (s : Store) (side : Side) (p : Point) (id : TileId) : Type 0 where
  pub tile : Tile
  pub is_there : tile_at s id ≡ Some tile
  pub level : HasNumber (rows (turned side tile.area)) (turned_point side p).y

-- on this side the tile under the number goes as far as p
pub record Reaches (s : Store) (side : Side) (p : Point) (id : TileId) : Type 0 where
  pub tile : Tile
  pub is_there : tile_at s id ≡ Some tile
  pub reaches : (turned side tile.area).x0 ≤ℤ (turned_point side p).x

-- p lies one step past the edge of the tile under the number, on this side
pub record IsPast (s : Store) (side : Side) (p : Point) (id : TileId) : Type 0 where
  pub tile : Tile
  pub is_there : tile_at s id ≡ Some tile
  pub one_step : (turned_point side p).x ≡ (turned side tile.area).x0 -ℤ pos 1
  pub level : HasNumber (rows (turned side tile.area)) (turned_point side p).y
