use Rattle.std.proofs.Common.{◌≡◌, ◌∷◌, ◌++◌, [], List, length}
use Rattle.std.specs.Prelude.{vec_items}
use Rattle.board_model.specs.declared.shapes.Shape.{Shape}
use Rattle.plane_set.specs.Drawings.{drawing_by}
use Rattle.plane_set.specs.Families.{AreRows, AreBoardRows, HaveAllClasses}
use Rattle.plane_set.proofs.adds.add_to_rows.Given as goal

-- the rows so far have the shape
abbrev pub invariant-loop-planes : goal.invariant-loop-planes
invariant-loop-planes g l = record {
  can_next : (goal.iterator-loop-planes g).can_next l.planes-iterator;
  is_finite : (goal.iterator-loop-planes g).is_finite l.planes-iterator;
  row : l.row ≡ length l.yielded;
  added : length l.added.items ≡ length l.yielded;
  classes : HaveAllClasses vec_items l.board.parts l.added.items;
  planes : AreBoardRows vec_items (drawing_by g.P.Plane.region g.P.Plane.strips) l.board.parts l.yielded → AreBoardRows vec_items (drawing_by g.P.Plane.region g.P.Plane.strips) l.board.parts l.added.items;
  shapes : (shapes : List Shape) → AreRows vec_items (drawing_by g.P.Plane.region g.P.Plane.strips) l.board.parts l.family shapes l.yielded → AreRows vec_items (drawing_by g.P.Plane.region g.P.Plane.strips) l.board.parts l.family (shapes ++ l.s ∷ []) l.added.items;
}
