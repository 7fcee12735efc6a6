use Rattle.std.proofs.Common.{◌<◌, List, length, All, sym, ◌∙◌, subst}
use Rattle.std.proofs.lemmas.Result.{IfOk-weaker}
use Rattle.geo_rect.specs.declared.ids.Spot.{Spot}
use Rattle.strip_moves.specs.Boxes.{IsBoardBox}
use Rattle.strip_moves.specs.Grounds.{ground_of}
use Rattle.session_core.specs.Attempts.{IsAttempt, IsAttemptOn}
use Rattle.session_core.proofs.Answering.{attempt_of, targets_there}
use Rattle.session_core.proofs.OnBoard.{sources_within, targets_within}
use Rattle.session_core.proofs.Turning.{net_listed}
use Rattle.session_core.proofs.attempts.next_of.Goals as goal

pub join-requires-clause-sources : goal.join-requires-clause-sources
join-requires-clause-sources g c =
    let b = c.args.board.now.parts in
    let lists = c.args.made.now.lists in
    let h = c.requires.sitting in
    subst (λ (boxes : List Spot). All (IsBoardBox b) boxes) (sym (c.as_slice.ensures ∙ c.in_ok-sources.ensures))
    (sources_within b lists c.args.net h.board (net_listed b lists c.args.net c.args.planes.now h c.requires.net) h.within)

pub join-requires-clause-target : goal.join-requires-clause-target
join-requires-clause-target g c =
    let b = c.args.board.now.parts in
    subst (λ (boxes : List Spot). 0 < length boxes) (sym (c.as_slice-2.ensures ∙ c.in_ok-targets.ensures))
    (targets_there b c.args.net c.args.number c.requires.sitting.board c.requires.pin)

pub join-requires-clause-targets : goal.join-requires-clause-targets
join-requires-clause-targets g c =
    let b = c.args.board.now.parts in
    subst (λ (boxes : List Spot). All (IsBoardBox b) boxes) (sym (c.as_slice-2.ensures ∙ c.in_ok-targets.ensures))
    (targets_within b c.args.net c.args.number c.requires.sitting.board c.requires.pin)

pub returns : goal.returns
returns g c =
    let b = c.args.board.now.parts in
    let lists = c.args.made.now.lists in
    let h = c.requires.sitting in
    let sources = c.as_slice.result.now in
    let targets = c.as_slice-2.result.now in
    IfOk-weaker c.join.result (IsAttemptOn b (ground_of b c.args.planes.now c.args.net) sources targets c.args.number) (IsAttempt b lists c.args.net)
    (λ a k. attempt_of b lists c.args.planes.now c.args.net h.board c.requires.net h.stands sources targets c.args.number a
    (c.as_slice.ensures ∙ c.in_ok-sources.ensures) (c.as_slice-2.ensures ∙ c.in_ok-targets.ensures) c.requires.number k)
    c.join.ensures
