use Rattle.std.proofs.Common.{ℕ, ◌≡◌, ◌<◌, Some}
use Rattle.std.specs.Prelude.{slice_get}
use Rattle.geo_rect.specs.declared.ids.Spot.{Spot}
use Rattle.walk_check.specs.Clear.{IsIn}
use Rattle.walk_check.proofs.nodes.has_node.Given as goal

-- no box so far has the node
abbrev pub invariant-loop-spot : goal.invariant-loop-spot
invariant-loop-spot l = (m : ℕ) (box : Spot) → m < l.spot-index → slice_get l.boxes m ≡ Some box → IsIn box l.v → ⊥
