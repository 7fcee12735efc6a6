-- The strips of a tiling: what stands under its numbers, in order.
use Rattle.std.specs.Prelude.{Bool, ◌&&◌, ◌||◌, if◌then◌else◌, List, [], ◌∷◌, Option, Some, None, Contains, int_le, int_lt}
use Rattle.plane_core.specs.declared.strips.Strip.{Strip}
use Rattle.plane_core.specs.Strips.{IsInOrder}
use Rattle.tile_store.specs.declared.tiles.Tile.{Tile}
use Rattle.tile_store.specs.declared.tiles.TileId.{TileId}
use Rattle.tile_store.specs.Store.{Store}
use Rattle.stitch_walk.specs.Pieces.{piece_of, IsPiece}

-- whether s starts below t, or in the same row and further left
abbrev pub comes_first : Strip → Strip → Bool
comes_first s t = int_lt s.area.y0 t.area.y0 || (int_le s.area.y0 t.area.y0 && int_lt s.area.x0 t.area.x0)

-- the list with one strip more, right before the first strip that it comes before
unfoldable pub placed : Strip → List Strip → List Strip
placed s [] = s ∷ []
placed s (t ∷ ts) = if comes_first s t then s ∷ t ∷ ts else t ∷ placed s ts

-- the list with the strip in its place, if there is one
abbrev pub with_strip : Option Strip → List Strip → List Strip
with_strip None ss = ss
with_strip (Some s) ss = placed s ss

-- the pieces of these tiles, in order
unfoldable pub pieces_in_order : List (Option Tile) → List Strip
pieces_in_order [] = []
pieces_in_order (tile ∷ tiles) = with_strip (piece_of tile) (pieces_in_order tiles)

-- the pieces of a store, by their lowest row and then by their leftmost column
abbrev pub strips_of : Store → List Strip
strips_of s = pieces_in_order s.slots

-- the strips are the pieces under these numbers, one after the other
abbrev pub AreUnder : Store → List TileId → List Strip → Type 0
AreUnder s [] [] = Unit {0}
AreUnder s [] (p ∷ ps) = ⊥
AreUnder s (id ∷ ids) [] = ⊥
AreUnder s (id ∷ ids) (p ∷ ps) = IsPiece s id p × AreUnder s ids ps

-- the strip is the piece under one of the numbers
pub record IsOneOf (s : Store) (ids : List TileId) (p : Strip) : Type 0 where
  pub by : TileId
  pub is_listed : Contains ids by
  pub is_piece : IsPiece s by p

-- the strips are exactly the pieces under these numbers, in order
pub record ArePieces (s : Store) (ids : List TileId) (strips : List Strip) : Type 0 where
  pub listed : (p : Strip) → Contains strips p → IsOneOf s ids p
  pub complete : (id : TileId) (p : Strip) → Contains ids id → IsPiece s id p → Contains strips p
  pub in_order : IsInOrder strips
