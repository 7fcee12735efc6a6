-- How far a sweep over an area has come.
use Rattle.std.specs.Prelude.{ℕ, ◌≡◌, List, ◌++◌, length, Contains}
use Rattle.geo_rect.specs.declared.shapes.Rect.{Rect}
use Rattle.tile_store.specs.declared.tiles.TileId.{TileId}
use Rattle.tile_store.specs.Store.{Store}
use Rattle.stitch_walk.specs.Links.{Holds}
use Rattle.stitch_walk.specs.Neighbours.{IsDistinct, MeetsArea}
use Rattle.stitch_walk.specs.Sweeps.{IsNext}

-- the tile is the first one, or a sweep enters it from one of those done
pub data IsEntered (s : Store) (area : Rect) (root : TileId) (done : List TileId) (j : TileId) : Type 0 where
  is_root : root ≡ j → IsEntered s area root done j
  is_next : (i : TileId) → Contains done i → IsNext s area i j → IsEntered s area root done j

-- the tiles found meet the area, and those that a sweep enters from the ones done are among them
pub record IsSweeping (s : Store) (area : Rect) (root : TileId) (done found : List TileId) : Type 0 where
  pub root_holds : Holds s root (record { x = area.x0; y = area.y0 })
  pub root_found : Contains found root
  pub meets : (j : TileId) → Contains found j → MeetsArea s area j
  pub closed : (i j : TileId) → Contains done i → IsNext s area i j → Contains found j
  pub entered : (j : TileId) → Contains found j → IsEntered s area root done j
  pub once : IsDistinct found

-- the sweep has done the tiles before this place
pub record HasSwept (s : Store) (area : Rect) (found : List TileId) (place : ℕ) : Type 0 where
  pub root : TileId
  pub done : List TileId
  pub rest : List TileId
  pub found_is : found ≡ done ++ rest
  pub place_is : place ≡ length done
  pub sweeping : IsSweeping s area root done found
