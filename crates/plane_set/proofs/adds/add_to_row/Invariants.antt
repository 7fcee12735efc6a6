use Rattle.std.proofs.Common.{◌≡◌, ◌∷◌, ◌++◌, [], List, length}
use Rattle.board_model.specs.declared.shapes.Shape.{Shape}
use Rattle.plane_set.specs.Drawings.{drawing_by}
use Rattle.plane_set.specs.Families.{IsRow, AreBoardPlanes}
use Rattle.plane_set.proofs.adds.add_to_row.Given as goal

-- the planes so far have the shape
abbrev pub invariant-loop-plane : goal.invariant-loop-plane
invariant-loop-plane g l = record {
  can_next : (goal.iterator-loop-plane g).can_next l.plane-iterator;
  is_finite : (goal.iterator-loop-plane g).is_finite l.plane-iterator;
  class : l.class ≡ length l.yielded;
  added : length l.added.items ≡ length l.yielded;
  planes : AreBoardPlanes (drawing_by g.P.Plane.region g.P.Plane.strips) l.board.parts l.yielded → AreBoardPlanes (drawing_by g.P.Plane.region g.P.Plane.strips) l.board.parts l.added.items;
  shapes : (shapes : List Shape) → IsRow (drawing_by g.P.Plane.region g.P.Plane.strips) l.board.parts l.family l.row shapes l.yielded → IsRow (drawing_by g.P.Plane.region g.P.Plane.strips) l.board.parts l.family l.row (shapes ++ l.s ∷ []) l.added.items;
}
