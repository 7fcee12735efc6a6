-- Tilings whose tiles are maximal: none can be made wider, and none taller.
use Rattle.plane_core.specs.declared.strips.Strip.{Strip}
use Rattle.plane_core.specs.LocalForm.{IsSideDefect, IsStackDefect}
use Rattle.tile_store.specs.declared.tiles.TileId.{TileId}
use Rattle.tile_store.specs.Store.{Store}
use Rattle.stitch_walk.specs.Pieces.{IsPiece}

-- no two tiles of one label stand side by side in some row, and no two of one label and the same
-- columns stand one on the other
pub record AreMaximal (s : Store) : Type 0 where
  pub no_side_defect : (i j : TileId) (p q : Strip) → IsPiece s i p → IsPiece s j q → ¬ IsSideDefect p q
  pub no_stack_defect : (i j : TileId) (p q : Strip) → IsPiece s i p → IsPiece s j q → ¬ IsStackDefect p q
