use Rattle.std.proofs.Common.{ℕ, ◌+◌, List, length, ap, ◌∙◌}
use Rattle.std.proofs.lemmas.Result.{IfOk-weaker}
use Rattle.board_model.specs.declared.made.Conn.{Conn}
use Rattle.replay_check.proofs.Next.{stuck_is_good, good_is_stuck}
use Rattle.replay_check.proofs.routes.has_no_route.Goals as goal

pub returns : goal.returns
returns g c =
    let b = c.args.board.now.parts in
    let lists = c.args.state.now.made.lists in
    let set = c.args.state.now.planes in
    let F : List Conn → ℕ = λ xs. length xs + 1 in
    let number = c.if-f-conns.false ∙ ap F c.conns.ensures in
    IfOk-weaker c.is_right.result _ _
    (λ yes e. (
      λ y. good_is_stuck b c.args.board.now.kept lists set c.requires.state c.args.net c.requires.net c.args.f.now number (e.0 y),
      λ h. e.1 (stuck_is_good b c.args.board.now.kept lists set c.requires.state c.args.net c.requires.net c.args.f.now h),
    ))
    c.is_right.ensures
