-- The areas of a plane that are left to no net whatever stands on the board.
use Rattle.std.specs.Prelude.{List, ◌⊎◌}
use Rattle.geo_rect.specs.declared.shapes.Point.{Point}
use Rattle.geo_rect.specs.declared.shapes.Rect.{Rect}
use Rattle.board_parts.specs.declared.parts.BoardParts.{BoardParts}
use Rattle.board_parts.specs.declared.parts.Keepout.{Keepout}
use Rattle.board_model.specs.Labels.{PlaneRule, Shuts, IsAllowed}
use Rattle.grow_rules.specs.Frames.{IsBoardPoint}
use Rattle.plane_set.specs.Joins.{IsInOneOf}

-- of the points of the board the areas have exactly those that are not allowed
pub record AreShutAreas (b : BoardParts) (rule : PlaneRule) (areas : List Rect) : Type 0 where
  pub shut : (p : Point) → IsInOneOf areas p → ¬ IsAllowed b rule p
  pub others : (p : Point) → IsBoardPoint b p → IsInOneOf areas p ⊎ IsAllowed b rule p

-- the new areas have the points of the old ones and those that the keep-out shuts, and no others
pub record HaveShutPoints (rule : PlaneRule) (k : Keepout) (old new : List Rect) : Type 0 where
  pub kept : (p : Point) → IsInOneOf old p → IsInOneOf new p
  pub gained : (p : Point) → Shuts rule p k → IsInOneOf new p
  pub only : (p : Point) → IsInOneOf new p → IsInOneOf old p ⊎ Shuts rule p k
