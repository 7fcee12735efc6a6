use Rattle.std.proofs.Common.{List, sym, ◌∙◌, subst}
use Rattle.board_model.specs.Shapes.{state_shapes}
use Rattle.plane_core.specs.declared.strips.Strip.{Strip}
use Rattle.plane_set.specs.Drawings.{Drawing, drawing_by}
use Rattle.route_law.specs.Steps.{AreWireStrips}
use Rattle.replay_check.proofs.WireStrips.{found_are_wire_strips, wire_strips_are_found}
use Rattle.replay_check.proofs.steps.are_wire_strips.Goals as goal

pub returns : goal.returns
returns g c =
    let b = c.args.board.now.parts in
    let lists = c.args.state.now.made.lists in
    let d : Drawing = drawing_by g.P.Plane.region g.P.Plane.strips c.wire-plane.result.now in
    let shows = c.wire-plane.ensures.shows b (state_shapes b lists) c.requires.state.planes in
    let P : List Strip → Type 0 = λ ss. AreWireStrips b lists c.args.layer c.args.class ss in
    let are = found_are_wire_strips b lists c.args.layer c.args.class d c.domain.result c.in_ok-all.all shows c.domain.ensures.domain c.in_ok-all.ensures.found in (
      λ y. subst P (sym (c.are_same.ensures.0 y ∙ c.as_slice.ensures)) are,
      λ h. c.are_same.ensures.1 (wire_strips_are_found b lists c.args.layer c.args.class d c.domain.result c.in_ok-all.all shows c.domain.ensures.domain c.in_ok-all.ensures.found c.args.strips.now h ∙ sym c.as_slice.ensures),
    )
