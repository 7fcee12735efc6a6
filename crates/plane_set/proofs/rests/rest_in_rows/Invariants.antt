use Rattle.std.proofs.Common.{◌≡◌, length}
use Rattle.std.specs.Prelude.{vec_items}
use Rattle.plane_set.specs.Drawings.{drawing_by}
use Rattle.plane_set.specs.Families.{HaveAllClasses}
use Rattle.plane_set.specs.Relabelled.{AreRowsRelabelled}
use Rattle.plane_set.proofs.rests.rest_in_rows.Given as goal

-- the rows so far are relabelled
abbrev pub invariant-loop-planes : goal.invariant-loop-planes
invariant-loop-planes g l = record {
  can_next : (goal.iterator-loop-planes g).can_next l.planes-iterator;
  is_finite : (goal.iterator-loop-planes g).is_finite l.planes-iterator;
  row : l.row ≡ length l.yielded;
  rested : length l.rested.items ≡ length l.yielded;
  classes : HaveAllClasses vec_items l.board.parts l.rested.items;
  labels : AreRowsRelabelled vec_items (drawing_by g.P.Plane.region g.P.Plane.strips) l.board.parts l.family l.gone l.shapes l.yielded l.rested.items;
}
