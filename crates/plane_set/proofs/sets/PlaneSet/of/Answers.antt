use Rattle.std.specs.Prelude.{vec_items}
use Rattle.plane_set.specs.declared.families.Family.TheVariants.{Wires, Vias}
use Rattle.plane_set.specs.Drawings.{drawing_by}
use Rattle.plane_set.proofs.Standing.{rows_drawn, planes_of_shown, planes_drawn}
use Rattle.plane_set.proofs.sets.PlaneSet.of.Goals as goal

pub returns : goal.returns
returns g c =
    let b = c.args.board.now.parts in
    let draw = drawing_by g.P.Plane.region g.P.Plane.strips in
    let shapes = c.args.shapes.now in
    let wires = c.in_ok-wires.wires.items in
    let vias = c.in_ok-vias.vias.items in
    let wires_show = c.in_ok-wires.ensures.shapes in
    let vias_show = c.in_ok-vias.ensures.shapes in
    record {
      planes = planes_drawn vec_items draw b wires vias
          c.in_ok-wires.ensures.rows c.in_ok-wires.ensures.classes (planes_of_shown vec_items draw b Wires shapes wires wires_show)
          c.in_ok-vias.ensures.rows c.in_ok-vias.ensures.classes (planes_of_shown vec_items draw b Vias shapes vias vias_show);
      wires = rows_drawn vec_items draw b Wires shapes wires wires_show;
      vias = rows_drawn vec_items draw b Vias shapes vias vias_show;
    }
