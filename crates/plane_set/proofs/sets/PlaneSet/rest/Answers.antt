use Rattle.std.proofs.Common.{length, sym, ◌∙◌, ap}
use Rattle.std.specs.Prelude.{vec_items}
use Rattle.plane_set.specs.declared.families.Family.TheVariants.{Wires, Vias}
use Rattle.plane_set.specs.Drawings.{drawing_by}
use Rattle.plane_set.specs.Standing.{PlaneTable}
use Rattle.plane_set.proofs.Standing.{classes_seen, board_seen, relabelled_seen, board_relabelled, drawn_length, planes_drawn}
use Rattle.plane_set.proofs.sets.PlaneSet.rest.Goals as goal

pub rest_in_rows-requires-clause-classes : goal.rest_in_rows-requires-clause-classes
rest_in_rows-requires-clause-classes g c =
    classes_seen vec_items (drawing_by g.P.Plane.region g.P.Plane.strips) c.args.board.now.parts c.self.inside.wires.items c.args.self.wires
    (ap (λ (t : PlaneTable). t.wires) c.self.view_is) c.requires.planes.wire_classes

pub rest_in_rows-requires-clause-board : goal.rest_in_rows-requires-clause-board
rest_in_rows-requires-clause-board g c =
    board_seen vec_items (drawing_by g.P.Plane.region g.P.Plane.strips) c.args.board.now.parts c.self.inside.wires.items c.args.self.wires
    (ap (λ (t : PlaneTable). t.wires) c.self.view_is) c.requires.planes.wire_planes

pub rest_in_rows-requires-2-clause-classes : goal.rest_in_rows-requires-2-clause-classes
rest_in_rows-requires-2-clause-classes g c =
    classes_seen vec_items (drawing_by g.P.Plane.region g.P.Plane.strips) c.args.board.now.parts c.self.inside.vias.items c.args.self.vias
    (ap (λ (t : PlaneTable). t.vias) c.self.view_is) c.requires.planes.via_classes

pub rest_in_rows-requires-2-clause-board : goal.rest_in_rows-requires-2-clause-board
rest_in_rows-requires-2-clause-board g c =
    board_seen vec_items (drawing_by g.P.Plane.region g.P.Plane.strips) c.args.board.now.parts c.self.inside.vias.items c.args.self.vias
    (ap (λ (t : PlaneTable). t.vias) c.self.view_is) c.requires.planes.via_planes

pub returns-clause-planes : goal.returns-clause-planes
returns-clause-planes g c =
    let b = c.args.board.now.parts in
    let draw = drawing_by g.P.Plane.region g.P.Plane.strips in
    let old = c.self.inside in
    let wires = c.in_ok-wires.wires.items in
    let vias = c.in_ok-vias.vias.items in
    let is_wires = ap (λ (t : PlaneTable). t.wires) c.self.view_is in
    let is_vias = ap (λ (t : PlaneTable). t.vias) c.self.view_is in
    let w = sym (drawn_length vec_items draw b old.wires.items) ∙ ap length is_wires ∙ c.requires.planes.layers in
    let v = sym (drawn_length vec_items draw b old.vias.items) ∙ ap length is_vias ∙ c.requires.planes.kinds in
    planes_drawn vec_items draw b wires vias
    (c.in_ok-wires.ensures.rows ∙ w) c.in_ok-wires.ensures.classes
    (board_relabelled vec_items draw b Wires c.args.gone.now c.args.shapes.now old.wires.items wires c.in_ok-wires.ensures.rows
    (classes_seen vec_items draw b old.wires.items c.args.self.wires is_wires c.requires.planes.wire_classes) c.in_ok-wires.ensures.classes c.in_ok-wires.ensures.labels
    (board_seen vec_items draw b old.wires.items c.args.self.wires is_wires c.requires.planes.wire_planes))
    (c.in_ok-vias.ensures.rows ∙ v) c.in_ok-vias.ensures.classes
    (board_relabelled vec_items draw b Vias c.args.gone.now c.args.shapes.now old.vias.items vias c.in_ok-vias.ensures.rows
    (classes_seen vec_items draw b old.vias.items c.args.self.vias is_vias c.requires.planes.via_classes) c.in_ok-vias.ensures.classes c.in_ok-vias.ensures.labels
    (board_seen vec_items draw b old.vias.items c.args.self.vias is_vias c.requires.planes.via_planes))

pub returns-clause-labels : goal.returns-clause-labels
returns-clause-labels g c =
    let b = c.args.board.now.parts in
    let draw = drawing_by g.P.Plane.region g.P.Plane.strips in
    let old = c.self.inside in
    record {
      wires = relabelled_seen vec_items draw b Wires c.args.gone.now c.args.shapes.now old.wires.items c.in_ok-wires.wires.items c.args.self.wires
          (ap (λ (t : PlaneTable). t.wires) c.self.view_is) c.in_ok-wires.ensures.labels;
      vias = relabelled_seen vec_items draw b Vias c.args.gone.now c.args.shapes.now old.vias.items c.in_ok-vias.vias.items c.args.self.vias
          (ap (λ (t : PlaneTable). t.vias) c.self.view_is) c.in_ok-vias.ensures.labels;
    }
