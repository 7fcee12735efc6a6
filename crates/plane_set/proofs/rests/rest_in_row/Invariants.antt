use Rattle.std.proofs.Common.{◌≡◌, length}
use Rattle.plane_set.specs.Drawings.{drawing_by}
use Rattle.plane_set.specs.Relabelled.{IsRowRelabelled}
use Rattle.plane_set.proofs.rests.rest_in_row.Given as goal

-- the planes so far are relabelled
abbrev pub invariant-loop-plane : goal.invariant-loop-plane
invariant-loop-plane g l = record {
  can_next : (goal.iterator-loop-plane g).can_next l.plane-iterator;
  is_finite : (goal.iterator-loop-plane g).is_finite l.plane-iterator;
  class : l.class ≡ length l.yielded;
  rested : length l.rested.items ≡ length l.yielded;
  labels : IsRowRelabelled (drawing_by g.P.Plane.region g.P.Plane.strips) l.board.parts l.family l.row l.gone l.shapes l.yielded l.rested.items;
}
