use Rattle.std.proofs.Common.{◌++◌, List, take}
use Rattle.board_model.specs.declared.shapes.Shape.{Shape}
use Rattle.plane_set.specs.Standing.{HasPlanes, StandsFor}
use Rattle.wire_merge.proofs.merges.merge.Given as goal

-- the planes have the shapes so far
abbrev pub invariant-loop-shape : goal.invariant-loop-shape
invariant-loop-shape g l = record {
  planes : HasPlanes l.board.parts l.merged;
  shapes : (old : List Shape) → StandsFor l.board.parts old l.fn.planes → StandsFor l.board.parts (old ++ take l.shape-index l.shapes) l.merged;
}
