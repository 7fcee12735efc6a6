use Rattle.std.proofs.Common.{List, ◌++◌, All, set, sym, ◌∙◌, subst}
use Rattle.std.specs.List.{flat_map}
use Rattle.std.proofs.lemmas.List.Elements.{All-weaker}
use Rattle.board_model.specs.declared.made.Conn.{Conn}
use Rattle.board_model.specs.declared.shapes.Shape.{Shape}
use Rattle.board_model.specs.Known.{IsKnown}
use Rattle.board_model.specs.Made.{without_conns}
use Rattle.board_model.specs.Shapes.{conn_shapes, state_shapes}
use Rattle.board_model.specs.WellFormed.{IsWellFormed}
use Rattle.board_model.proofs.MadeShapes.{conn_known}
use Rattle.board_model.proofs.StateShapes.{All-flat_map}
use Rattle.plane_set.specs.Standing.{StandsFor}
use Rattle.session_core.specs.Sessions.{IsSitting}
use Rattle.session_core.proofs.Adopting.{in_place, sitting_back}
use Rattle.session_core.proofs.Turning.{net_listed}
use Rattle.session_core.proofs.adopts.give_back.Goals as goal

pub merge-requires-clause-known : goal.merge-requires-clause-known
merge-requires-clause-known g c =
    let b = c.args.board.now.parts in
    let n = c.args.net in
    subst (λ (shapes : List Shape). All (IsKnown b) shapes) (sym (c.as_slice.ensures ∙ c.in_ok-shapes.ensures))
    (All-flat_map (IsKnown b) (conn_shapes b n) c.args.before.now
    (All-weaker (IsWellFormed b) (λ (conn : Conn). All (IsKnown b) (conn_shapes b n conn)) (conn_known b c.requires.sitting.board n c.requires.net) _ c.requires.well_formed))

pub returns-clause-lists : goal.returns-clause-lists
returns-clause-lists g c =
    let b = c.args.board.now.parts in
    let n = c.args.net in
    let old = c.args.made.now.lists in
    let h = c.requires.sitting in
    in_place n old c.rip.new.made.lists c.append_all.new.made.lists c.args.before.now (net_listed b old n c.args.planes h c.requires.net) c.in_ok-planes.ensures.lists c.in_ok-append_all.ensures

pub returns-clause-sitting : goal.returns-clause-sitting
returns-clause-sitting g c = λ first again.
    let b = c.args.board.now.parts in
    let n = c.args.net in
    let old = c.args.made.now.lists in
    let before = c.args.before.now in
    let after = c.in_ok-planes-2.planes in
    let same = returns-clause-lists g c in
    let session : IsSitting b (set old n.0 before) first = subst (λ (ls : List (List Conn)). IsSitting b ls first) same again in
    let all = c.in_ok-planes-2.ensures.shapes (state_shapes b c.rip.new.made.lists) c.in_ok-planes.ensures.sitting.stands in
    let of_left : StandsFor b (state_shapes b (without_conns old n) ++ c.as_slice.result.now) after = subst (λ (ls : List (List Conn)). StandsFor b (state_shapes b ls ++ c.as_slice.result.now) after) c.in_ok-planes.ensures.lists all in
    let of_both : StandsFor b (state_shapes b (without_conns old n) ++ flat_map (conn_shapes b n) before) after =
    subst (λ (shapes : List Shape). StandsFor b (state_shapes b (without_conns old n) ++ shapes) after) (c.as_slice.ensures ∙ c.in_ok-shapes.ensures) of_left in
    subst (λ (ls : List (List Conn)). IsSitting b ls after) (sym same)
    (sitting_back b n old before first after c.requires.net (net_listed b old n c.args.planes c.requires.sitting c.requires.net) session of_both)
