use Rattle.std.proofs.Common.{List, ◌++◌, All, sym, ◌∙◌, ap, subst}
use Rattle.std.specs.Prelude.{IsSome}
use Rattle.std.specs.List.{flat_map}
use Rattle.std.proofs.lemmas.Result.{IfOk-weaker}
use Rattle.board_model.specs.declared.made.Conn.{Conn}
use Rattle.board_model.specs.declared.shapes.Shape.{Shape}
use Rattle.board_model.specs.Known.{IsKnown}
use Rattle.board_model.specs.Made.{without_conns}
use Rattle.board_model.specs.Shapes.{conn_shapes, state_shapes}
use Rattle.plane_set.specs.Standing.{PlaneTable, StandsFor}
use Rattle.session_core.specs.Sessions.{IsSitting}
use Rattle.session_core.proofs.Turning.{stands_in_parts, own_known, conns_owned, sitting_without}
use Rattle.session_core.proofs.rips.rip.Goals as goal

pub remove-requires-clause-planes : goal.remove-requires-clause-planes
remove-requires-clause-planes g c =
    let b = c.args.board.now.parts in
    let lists = c.args.made.now.lists in
    let n = c.args.net in
    let gone = c.as_slice.ensures ∙ c.in_ok-gone.ensures ∙ ap (λ (conns : List Conn). flat_map (conn_shapes b n) conns) c.conns.ensures in
    let stay = c.as_slice-2.ensures ∙ c.in_ok-stay.ensures.shapes ∙ ap (λ (ls : List (List Conn)). state_shapes b ls) c.clear.ensures in
    subst (λ (shapes : List Shape). StandsFor b (shapes ++ c.as_slice.result.now) c.args.planes) (sym stay)
    (subst (λ (shapes : List Shape). StandsFor b (state_shapes b (without_conns lists n) ++ shapes) c.args.planes) (sym gone)
    (stands_in_parts b lists n c.args.planes c.requires.sitting c.requires.net))

pub remove-requires-clause-gone : goal.remove-requires-clause-gone
remove-requires-clause-gone g c =
    let b = c.args.board.now.parts in
    let lists = c.args.made.now.lists in
    let n = c.args.net in
    let gone = c.as_slice.ensures ∙ c.in_ok-gone.ensures ∙ ap (λ (conns : List Conn). flat_map (conn_shapes b n) conns) c.conns.ensures in
    subst (λ (shapes : List Shape). All (IsKnown b) shapes) (sym gone) (own_known b lists n c.args.planes c.requires.sitting c.requires.net)

pub remove-requires-clause-nets : goal.remove-requires-clause-nets
remove-requires-clause-nets g c =
    let b = c.args.board.now.parts in
    let n = c.args.net in
    subst (λ (shapes : List Shape). All (λ (s : Shape). IsSome s.owner) shapes) (sym (c.as_slice.ensures ∙ c.in_ok-gone.ensures)) (conns_owned b n c.conns.result.now)

pub returns-clause-sitting : goal.returns-clause-sitting
returns-clause-sitting g c =
    let b = c.args.board.now.parts in
    let lists = c.args.made.now.lists in
    let n = c.args.net in
    let stay = c.as_slice-2.ensures ∙ c.in_ok-stay.ensures.shapes ∙ ap (λ (ls : List (List Conn)). state_shapes b ls) c.clear.ensures in
    IfOk-weaker c.remove.result (λ (set : PlaneTable). StandsFor b c.as_slice-2.result.now set) (λ (set : PlaneTable). IsSitting b c.clear.new.self.lists set)
    (λ set k. subst (λ (ls : List (List Conn)). IsSitting b ls set) (sym c.clear.ensures)
    (sitting_without b lists n c.args.planes c.requires.sitting c.requires.net set (subst (λ (shapes : List Shape). StandsFor b shapes set) stay k)))
    c.remove.ensures
