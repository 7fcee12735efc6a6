-- The tiles next to a tile on a side, in the order in which the walk along that side meets them, and
-- the tiles that meet an area.
use Rattle.std.specs.Prelude.{ℕ, zero, suc, ◌≡◌, ◌≢◌, ◌<ℤ◌, List, Contains, AllPairs, Some}
use Rattle.geo_rect.specs.declared.shapes.Rect.{Rect}
use Rattle.plane_core.specs.declared.sides.Side.{Side}
use Rattle.plane_core.specs.declared.sides.Side.TheVariants.{Left, Below, Right, Above}
use Rattle.plane_core.specs.Choice.{Meets}
use Rattle.plane_core.specs.Sides.{IsBeside, turned}
use Rattle.tile_store.specs.declared.tiles.Tile.{Tile}
use Rattle.tile_store.specs.declared.tiles.TileId.{TileId}
use Rattle.tile_store.specs.Store.{Store, tile_at}

-- the side of a number: 0 left, 1 below, 2 right, 3 above
abbrev pub side_of : ℕ → Side
side_of zero = Left
side_of (suc zero) = Below
side_of (suc (suc zero)) = Right
side_of (suc (suc (suc _))) = Above

-- the tile under j has a point one step past the edge on this side of the tile under i
pub record IsNeighbour (s : Store) (side : Side) (i j : TileId) : Type 0 where
  pub tile : Tile
  pub is_there : tile_at s i ≡ Some tile
  pub neighbour : Tile
  pub neighbour_is_there : tile_at s j ≡ Some neighbour
  pub beside : IsBeside side tile.area neighbour.area

-- with the side turned to the left, the tile under i ends below the row in which that under j begins:
-- on the left side this is upwards, below to the right, on the right side downwards, above to the left
pub record ComesBefore (s : Store) (side : Side) (i j : TileId) : Type 0 where
  pub first : Tile
  pub second : Tile
  pub first_is : tile_at s i ≡ Some first
  pub second_is : tile_at s j ≡ Some second
  pub ends_before : (turned side first.area).y1 <ℤ (turned side second.area).y0

-- no number stands twice in the list
abbrev pub IsDistinct : List TileId → Type 0
IsDistinct ids = AllPairs (λ i j. i ≢ j) ids

-- found lists exactly the neighbours of the tile under id on this side, each once, in the order of the walk
pub record AreNeighbours (s : Store) (side : Side) (id : TileId) (found : List TileId) : Type 0 where
  pub listed : (j : TileId) → Contains found j → IsNeighbour s side id j
  pub complete : (j : TileId) → IsNeighbour s side id j → Contains found j
  pub once : IsDistinct found
  pub in_order : AllPairs (ComesBefore s side) found

-- the tile under the number meets the area
pub record MeetsArea (s : Store) (area : Rect) (id : TileId) : Type 0 where
  pub tile : Tile
  pub is_there : tile_at s id ≡ Some tile
  pub meets : Meets tile.area area

-- found lists exactly the tiles that meet the area, each once
pub record AreMeeting (s : Store) (area : Rect) (found : List TileId) : Type 0 where
  pub listed : (id : TileId) → Contains found id → MeetsArea s area id
  pub complete : (id : TileId) → MeetsArea s area id → Contains found id
  pub once : IsDistinct found
