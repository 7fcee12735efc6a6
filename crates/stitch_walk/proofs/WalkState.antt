-- How far a walk along a side of a tile has come, with that side turned to the left, so that the walk
-- goes upwards in the column left of the tile.
use Rattle.std.specs.Prelude.{ℕ, ◌+◌, length, ℤ, pos, ◌≡◌, ◌+ℤ◌, ◌-ℤ◌, ◌≤ℤ◌, ◌<ℤ◌, List, Contains, AllPairs, Option, Some, None}
use Rattle.std.specs.Int.{int_max}
use Rattle.std.specs.Int.RustNames.{unsigned_abs}
use Rattle.geo_rect.specs.declared.shapes.Interval.{Interval}
use Rattle.geo_rect.specs.declared.shapes.Point.{Point}
use Rattle.geo_rect.specs.declared.shapes.Rect.{Rect}
use Rattle.geo_rect.specs.Axis.{HasNumber}
use Rattle.geo_rect.specs.Plane.{HasPoint, rows}
use Rattle.plane_core.specs.declared.sides.Side.{Side}
use Rattle.plane_core.specs.Sides.{turned}
use Rattle.tile_store.specs.declared.tiles.Tile.{Tile}
use Rattle.tile_store.specs.declared.tiles.TileId.{TileId}
use Rattle.tile_store.specs.Store.{Store, tile_at}
use Rattle.stitch_walk.specs.Links.{Tiles}
use Rattle.stitch_walk.specs.Neighbours.{IsNeighbour, ComesBefore}

-- the tile under the number has the turned point
pub record HoldsTurned (s : Store) (side : Side) (id : TileId) (q : Point) : Type 0 where
  pub tile : Tile
  pub is_there : tile_at s id ≡ Some tile
  pub has_point : HasPoint (turned side tile.area) q

-- a stitch names the tile that has the turned point, and is absent where the domain does not have it
abbrev pub LeadsToTurned : Store → Rect → Side → Point → Option TileId → Type 0
LeadsToTurned s domain side q None = ¬ HasPoint (turned side domain) q
LeadsToTurned s domain side q (Some id) = HoldsTurned s side id q

-- the point left of the turned tile in this row
abbrev pub left_of : Side → Rect → ℤ → Point
left_of side r y = record { x = (turned side r).x0 -ℤ pos 1; y = y }

-- the tile under the number ends below the row
pub record EndsBelow (s : Store) (side : Side) (row : ℤ) (id : TileId) : Type 0 where
  pub tile : Tile
  pub is_there : tile_at s id ≡ Some tile
  pub ends : (turned side tile.area).y1 <ℤ row

-- one of the numbers found is that of a tile that has the turned point
pub record IsFound (s : Store) (side : Side) (found : List TileId) (q : Point) : Type 0 where
  pub by : TileId
  pub is_listed : Contains found by
  pub holds : HoldsTurned s side by q

-- the neighbours below the row are found, and next is the one that has the row
pub record HasComeTo (s : Store) (domain : Rect) (side : Side) (id : TileId) (r : Rect) (found : List TileId) (row : ℤ) (next : Option TileId) : Type 0 where
  pub starts : (turned side r).y0 ≤ℤ row
  pub listed : (j : TileId) → Contains found j → IsNeighbour s side id j
  pub below : (j : TileId) → Contains found j → EndsBelow s side row j
  pub complete : (y : ℤ) → HasNumber (rows (turned side r)) y → HasPoint (turned side domain) (left_of side r y) → y <ℤ row → IsFound s side found (left_of side r y)
  pub in_order : AllPairs (ComesBefore s side) found
  pub onward : row ≤ℤ (turned side r).y1 → LeadsToTurned s domain side (left_of side r row) next

-- what is left of a walk that ends at the row last, when it has come to this row
abbrev pub rows_left : ℤ → ℤ → ℕ
rows_left last row = unsigned_abs (int_max ((last +ℤ pos 1) -ℤ row) (pos 0))

-- the walk along the tile under id has come to this row, and the tile and those found were counted
pub record IsWalking (tiles : Tiles) (side : Side) (id : TileId) (edge : Interval) (found : List TileId) (row : ℤ) (next : Option TileId) (before now : ℕ) : Type 0 where
  pub tile : Tile
  pub is_there : tile_at tiles.store id ≡ Some tile
  pub edge_is : edge ≡ rows (turned side tile.area)
  pub come : HasComeTo tiles.store tiles.domain side id tile.area found row next
  pub counted : now ≡ before + length found + 1
