use Rattle.std.proofs.Common.{◌≡◌, length}
use Rattle.std.specs.Prelude.{vec_items}
use Rattle.plane_set.specs.Drawings.{drawing_by}
use Rattle.plane_set.specs.Families.{AreRows, HaveAllClasses}
use Rattle.plane_set.proofs.builds.build_rows.Given as goal

-- the rows so far are there
abbrev pub invariant-loop-row : goal.invariant-loop-row
invariant-loop-row g l = record {
  rows : length l.rows.items ≡ l.row;
  classes : HaveAllClasses vec_items l.board.parts l.rows.items;
  shapes : AreRows vec_items (drawing_by g.P.Plane.region g.P.Plane.strips) l.board.parts l.family l.shapes l.rows.items;
}
