use Rattle.std.proofs.Common.{◌≡◌, length}
use Rattle.plane_set.specs.Drawings.{drawing_by}
use Rattle.plane_set.specs.Families.{IsRow}
use Rattle.plane_set.proofs.builds.build_row.Given as goal

-- the planes of the classes so far are there
abbrev pub invariant-loop-class : goal.invariant-loop-class
invariant-loop-class g l = record {
  classes : length l.planes.items ≡ l.class;
  shapes : IsRow (drawing_by g.P.Plane.region g.P.Plane.strips) l.board.parts l.family l.row l.shapes l.planes.items;
}
