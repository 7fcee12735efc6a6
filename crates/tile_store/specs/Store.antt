-- What contracts see of a store of tiles: a finite map from numbers to tiles.
use Rattle.std.specs.Prelude.{◌≡◌, ◌≢◌, ℕ, List, Option, None, IsSome, slice_index_or}
use Rattle.tile_store.specs.declared.tiles.Tile.{Tile}
use Rattle.tile_store.specs.declared.tiles.TileId.{TileId}

-- a tile or nothing under each number from 0 on, and how many more tiles may be put in without memory
pub record Store : Type 0 where
  pub slots : List (Option Tile)
  pub spare : ℕ

-- the tile under a number, if there is one
abbrev pub tile_at : Store → TileId → Option Tile
tile_at s id = slice_index_or s.slots id.0 None

-- there is a tile under the number
abbrev pub IsPresent : Store → TileId → Type 0
IsPresent s id = IsSome (tile_at s id)

-- under the number there is this now, and under each other number what was there before
pub record ChangesAt (old new : Store) (id : TileId) (slot : Option Tile) : Type 0 where
  pub here : tile_at new id ≡ slot
  pub elsewhere : (other : TileId) → other ≢ id → tile_at new other ≡ tile_at old other

-- no number has a tile
abbrev pub HasNoTile : Store → Type 0
HasNoTile s = (id : TileId) → tile_at s id ≡ None

-- under each number there is what was there before
abbrev pub HasSameTiles : Store → Store → Type 0
HasSameTiles old new = (id : TileId) → tile_at new id ≡ tile_at old id
