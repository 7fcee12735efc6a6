use Rattle.std.proofs.Common.{◌∷◌, ◌++◌, [], List, length, sym, ◌∙◌, ap, subst}
use Rattle.std.specs.Prelude.{vec_items}
use Rattle.plane_set.specs.declared.families.Family.TheVariants.{Wires, Vias}
use Rattle.plane_set.specs.Drawings.{Drawing, drawing_by}
use Rattle.plane_set.specs.Families.{AreRows}
use Rattle.plane_set.specs.Standing.{PlaneTable}
use Rattle.plane_set.proofs.Standing.{rows_drawn, rows_undrawn, board_seen, classes_seen, drawn_length, planes_drawn}
use Rattle.plane_set.proofs.sets.PlaneSet.add.Goals as goal

pub add_to_rows-requires-clause-classes : goal.add_to_rows-requires-clause-classes
add_to_rows-requires-clause-classes g c =
    classes_seen vec_items (drawing_by g.P.Plane.region g.P.Plane.strips) c.args.board.now.parts c.self.inside.wires.items c.args.self.wires
    (ap (λ (t : PlaneTable). t.wires) c.self.view_is) c.requires.planes.wire_classes

pub add_to_rows-requires-2-clause-classes : goal.add_to_rows-requires-2-clause-classes
add_to_rows-requires-2-clause-classes g c =
    classes_seen vec_items (drawing_by g.P.Plane.region g.P.Plane.strips) c.args.board.now.parts c.self.inside.vias.items c.args.self.vias
    (ap (λ (t : PlaneTable). t.vias) c.self.view_is) c.requires.planes.via_classes

pub returns-clause-planes : goal.returns-clause-planes
returns-clause-planes g c =
    let b = c.args.board.now.parts in
    let draw = drawing_by g.P.Plane.region g.P.Plane.strips in
    let old = c.self.inside in
    let is_wires = ap (λ (t : PlaneTable). t.wires) c.self.view_is in
    let is_vias = ap (λ (t : PlaneTable). t.vias) c.self.view_is in
    let w = sym (drawn_length vec_items draw b old.wires.items) ∙ ap length is_wires ∙ c.requires.planes.layers in
    let v = sym (drawn_length vec_items draw b old.vias.items) ∙ ap length is_vias ∙ c.requires.planes.kinds in
    planes_drawn vec_items draw b c.in_ok-wires.wires.items c.in_ok-vias.vias.items
    (c.in_ok-wires.ensures.rows ∙ w) c.in_ok-wires.ensures.classes
    (c.in_ok-wires.ensures.planes (board_seen vec_items draw b old.wires.items c.args.self.wires is_wires c.requires.planes.wire_planes))
    (c.in_ok-vias.ensures.rows ∙ v) c.in_ok-vias.ensures.classes
    (c.in_ok-vias.ensures.planes (board_seen vec_items draw b old.vias.items c.args.self.vias is_vias c.requires.planes.via_planes))

pub returns-clause-shapes : goal.returns-clause-shapes
returns-clause-shapes g c =
    let b = c.args.board.now.parts in
    let draw = drawing_by g.P.Plane.region g.P.Plane.strips in
    let old = c.self.inside in
    let s = c.args.s.now in
    λ shapes h. record {
      planes = returns-clause-planes g c;
      wires = rows_drawn vec_items draw b Wires (shapes ++ s ∷ []) c.in_ok-wires.wires.items
          (c.in_ok-wires.ensures.shapes shapes (rows_undrawn vec_items draw b Wires shapes old.wires.items
          (subst (λ (rows : List (List Drawing)). AreRows (λ (row : List Drawing). row) (λ (d : Drawing). d) b Wires shapes rows) (sym (ap (λ (t : PlaneTable). t.wires) c.self.view_is)) h.wires)));
      vias = rows_drawn vec_items draw b Vias (shapes ++ s ∷ []) c.in_ok-vias.vias.items
          (c.in_ok-vias.ensures.shapes shapes (rows_undrawn vec_items draw b Vias shapes old.vias.items
          (subst (λ (rows : List (List Drawing)). AreRows (λ (row : List Drawing). row) (λ (d : Drawing). d) b Vias shapes rows) (sym (ap (λ (t : PlaneTable). t.vias) c.self.view_is)) h.vias)));
    }
