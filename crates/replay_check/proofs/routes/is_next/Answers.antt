use Rattle.std.proofs.Common.{ℕ, ◌+◌, List, length, ap, ◌∙◌}
use Rattle.std.proofs.lemmas.Result.{IfOk-weaker}
use Rattle.board_model.specs.declared.made.Conn.{Conn}
use Rattle.replay_check.proofs.Listing.{not_so, not_true}
use Rattle.replay_check.proofs.Next.{next_places, next_is_good, good_is_next}
use Rattle.replay_check.proofs.routes.is_next.Goals as goal

pub returns-then-not-has_places : goal.returns-then-not-has_places
returns-then-not-has_places g c =
    not_so _
    (λ h. not_true _ c.if-not-has_places.ensures
    (next_places c.args.board.now.parts c.args.board.now.kept c.args.state.now.made.lists c.args.state.now.planes c.requires.state c.args.net c.requires.net c.args.m.now h))

pub returns : goal.returns
returns g c =
    let b = c.args.board.now.parts in
    let lists = c.args.state.now.made.lists in
    let set = c.args.state.now.planes in
    let F : List Conn → ℕ = λ xs. length xs + 1 in
    let number = c.if-m-conns.false ∙ ap F c.conns.ensures in
    IfOk-weaker c.is_right.result _ _
    (λ yes e. (
      λ y. good_is_next b c.args.board.now.kept lists set c.requires.state c.args.net c.requires.net c.args.m.now number (e.0 y),
      λ h. e.1 (next_is_good b c.args.board.now.kept lists set c.requires.state c.args.net c.requires.net c.args.m.now h),
    ))
    c.is_right.ensures
