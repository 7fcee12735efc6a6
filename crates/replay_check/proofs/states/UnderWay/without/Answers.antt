use Rattle.std.proofs.Common.{◌≡◌, ◌++◌, List, All, sym, ◌∙◌, subst, ap}
use Rattle.std.specs.Prelude.{IsSome}
use Rattle.std.specs.List.{flat_map}
use Rattle.board_model.specs.declared.shapes.Shape.{Shape}
use Rattle.board_model.specs.declared.made.Conn.{Conn}
use Rattle.board_model.specs.Known.{IsKnown}
use Rattle.board_model.specs.Made.{conns_of, without_conns}
use Rattle.board_model.specs.Shapes.{conn_shapes, state_shapes}
use Rattle.plane_set.specs.Standing.{StandsFor}
use Rattle.replay_check.specs.States.{IsUnderWay}
use Rattle.replay_check.proofs.Growing.{all_owned, gone_known, stay_and_gone, without_net}
use Rattle.replay_check.proofs.states.UnderWay.without.Given as given
use Rattle.replay_check.proofs.states.UnderWay.without.Goals as goal

gone_is : (g : given.Over) (c : goal.After-as_slice-2 g) → c.as_slice.result.now ≡ flat_map (conn_shapes c.args.board.now.parts c.args.net) (conns_of c.args.self.made.lists c.args.net)
gone_is g c =
    let F : List Conn → List Shape = λ cs. flat_map (conn_shapes c.args.board.now.parts c.args.net) cs in
    c.as_slice.ensures ∙ c.in_ok-gone.ensures ∙ ap F c.conns.ensures

stay_is : (g : given.Over) (c : goal.After-as_slice-2 g) → c.as_slice-2.result.now ≡ state_shapes c.args.board.now.parts (without_conns c.args.self.made.lists c.args.net)
stay_is g c =
    let F : List (List Conn) → List Shape = λ ls. state_shapes c.args.board.now.parts ls in
    c.as_slice-2.ensures ∙ c.in_ok-stay.ensures.shapes ∙ ap F c.clear.ensures

pub remove-requires-clause-planes : goal.remove-requires-clause-planes
remove-requires-clause-planes g c =
    let b = c.args.board.now.parts in
    let set = c.args.self.planes in
    let there = stay_and_gone b c.args.self.made.lists set c.requires.state c.args.net c.requires.net in
    let P : List Shape → Type 0 = λ xs. StandsFor b (state_shapes b (without_conns c.args.self.made.lists c.args.net) ++ xs) set in
    let Q : List Shape → Type 0 = λ xs. StandsFor b (xs ++ c.as_slice.result.now) set in
    subst Q (sym (stay_is g c)) (subst P (sym (gone_is g c)) there)

pub remove-requires-clause-gone : goal.remove-requires-clause-gone
remove-requires-clause-gone g c =
    let b = c.args.board.now.parts in
    let P : List Shape → Type 0 = λ xs. All (IsKnown b) xs in
    subst P (sym (gone_is g c)) (gone_known b c.args.self.made.lists c.args.self.planes c.requires.state c.args.net c.requires.net c.args.board.now.kept)

pub remove-requires-clause-nets : goal.remove-requires-clause-nets
remove-requires-clause-nets g c =
    let P : List Shape → Type 0 = λ xs. All (λ (s : Shape). IsSome s.owner) xs in
    subst P (sym (gone_is g c)) (all_owned c.args.board.now.parts c.args.net (conns_of c.args.self.made.lists c.args.net))

pub returns-clause-state : goal.returns-clause-state
returns-clause-state g c =
    let b = c.args.board.now.parts in
    let P : List Shape → Type 0 = λ xs. StandsFor b xs c.in_ok-planes.planes in
    let Q : List (List Conn) → Type 0 = λ ls. IsUnderWay b ls c.in_ok-planes.planes in
    let F : List (List Conn) → List Shape = λ ls. state_shapes b ls in
    let same = c.as_slice-2.ensures ∙ c.in_ok-stay.ensures.shapes ∙ ap F c.clear.ensures in
    subst Q (sym c.clear.ensures)
    (without_net b c.args.self.made.lists c.args.self.planes c.requires.state c.args.net c.requires.net c.in_ok-planes.planes (subst P same c.in_ok-planes.ensures))
