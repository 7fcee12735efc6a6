use Rattle.std.proofs.Common.{ℕ, ◌≡◌, ◌<◌, ◌↔◌, List, All, IsTrue, length, sym, ◌∙◌, ap, subst}
use Rattle.std.specs.Option.{option_copied}
use Rattle.geo_rect.specs.declared.ids.Spot.{Spot}
use Rattle.board_model.specs.Boxes.{source_boxes, target_boxes}
use Rattle.cert_check.specs.Verdicts.{IsGood}
use Rattle.cert_check.proofs.Judging.{yes_if_good}
use Rattle.route_law.specs.Routing.{next_targets}
use Rattle.strip_moves.specs.Boxes.{IsBoardBox}
use Rattle.strip_moves.specs.Grounds.{ground_of}
use Rattle.replay_check.proofs.Growing.{net_on_board, net_well_formed}
use Rattle.replay_check.proofs.OnBoard.{sources_on, targets_on, some_target}
use Rattle.replay_check.proofs.verdicts.is_right.Given as given
use Rattle.replay_check.proofs.verdicts.is_right.Goals as goal

sources_are : (g : given.Over) (c : goal.After-as_slice-2 g) → c.as_slice.result.now ≡ source_boxes c.args.board.now.parts c.args.state.now.made.lists c.args.net
sources_are g c = c.as_slice.ensures ∙ c.in_ok-sources.ensures

targets_are : (g : given.Over) (c : goal.After-as_slice-2 g) → c.as_slice-2.result.now ≡ target_boxes c.args.board.now.parts c.args.net c.next_pin-number.result
targets_are g c = c.as_slice-2.ensures ∙ c.in_ok-targets.ensures

pub check-requires-clause-sources : goal.check-requires-clause-sources
check-requires-clause-sources g c =
    let b = c.args.board.now.parts in
    let lists = c.args.state.now.made.lists in
    let set = c.args.state.now.planes in
    let P : List Spot → Type 0 = λ xs. All (IsBoardBox b) xs in
    subst P (sym (sources_are g c))
    (sources_on b c.args.board.now.kept lists c.args.net (net_on_board b lists set c.requires.state c.args.net c.requires.net) (net_well_formed b lists set c.requires.state c.args.net c.requires.net))

pub check-requires-clause-some_target : goal.check-requires-clause-some_target
check-requires-clause-some_target g c =
    let b = c.args.board.now.parts in
    let P : List Spot → Type 0 = λ xs. 0 < length xs in
    subst P (sym (targets_are g c)) (some_target b c.args.board.now.kept c.args.net c.next_pin-number.result c.next_pin-number.ensures.pin)

pub check-requires-clause-targets : goal.check-requires-clause-targets
check-requires-clause-targets g c =
    let b = c.args.board.now.parts in
    let P : List Spot → Type 0 = λ xs. All (IsBoardBox b) xs in
    subst P (sym (targets_are g c)) (targets_on b c.args.board.now.kept c.args.net c.next_pin-number.result)

pub returns : goal.returns
returns g c =
    let b = c.args.board.now.parts in
    let lists = c.args.state.now.made.lists in
    let ground = ground_of b c.args.state.now.planes c.args.net in
    let sources : c.as_slice.result.now ≡ source_boxes b lists c.args.net = c.as_slice.ensures ∙ c.in_ok-sources.ensures in
    let F : ℕ → List Spot = λ n. target_boxes b c.args.net n in
    let targets : c.as_slice-2.result.now ≡ next_targets b lists c.args.net = c.as_slice-2.ensures ∙ c.in_ok-targets.ensures ∙ ap F c.next_pin-number.ensures.number in
    let good = yes_if_good b ground c.as_slice.result.now c.as_slice-2.result.now (option_copied c.args.conn) c.args.cert.now c.in_ok-verdict.verdict c.in_ok-verdict.ensures.exact in
    let P : List Spot → Type 0 = λ xs. IsTrue c.is_yes.result ↔ IsGood b ground xs c.as_slice-2.result.now (option_copied c.args.conn) c.args.cert.now in
    let Q : List Spot → Type 0 = λ xs. IsTrue c.is_yes.result ↔ IsGood b ground (source_boxes b lists c.args.net) xs (option_copied c.args.conn) c.args.cert.now in
    subst Q targets (subst P sources (λ y. good.0 (c.is_yes.ensures.0 y), λ h. c.is_yes.ensures.1 (good.1 h)))
