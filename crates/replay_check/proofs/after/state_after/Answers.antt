use Rattle.std.proofs.Common.{ℕ, List, All, sym, ◌∙◌, ap, subst}
use Rattle.board_model.specs.declared.made.Conn.{Conn}
use Rattle.replay_check.specs.Leaving.{IsReplyAmong, left_by_all}
use Rattle.replay_check.proofs.Leaving.{replies_among, left_is_after, after_is_left, after_is_kept}
use Rattle.replay_check.proofs.after.state_after.Goals as goal

pub take_replies-requires : goal.take_replies-requires
take_replies-requires c =
    let P : ℕ → Type 0 = λ nets. All (IsReplyAmong nets) c.args.replies.now in
    record { nets = subst P (sym c.in_ok-made.ensures.nets) (replies_among c.args.board.now.parts c.args.replies.now c.requires.run) }

pub returns-clause-state : goal.returns-clause-state
returns-clause-state c =
    let F : List (List Conn) → List (List Conn) = λ lists. left_by_all lists c.args.replies.now in
    let left = c.in_ok-take_replies.ensures.lists ∙ ap F c.in_ok-made.ensures.lists in
    left_is_after c.args.board.now.parts c.args.replies.now c.take_replies.new.made.lists c.requires.run left

pub returns-clause-one : goal.returns-clause-one
returns-clause-one c =
    let F : List (List Conn) → List (List Conn) = λ lists. left_by_all lists c.args.replies.now in
    let left = c.in_ok-take_replies.ensures.lists ∙ ap F c.in_ok-made.ensures.lists in
    λ lists h. after_is_left c.args.board.now.parts c.args.replies.now lists h ∙ sym left

pub returns-clause-kept : goal.returns-clause-kept
returns-clause-kept c =
    after_is_kept c.args.board.now.parts c.args.replies.now c.take_replies.new.made.lists c.args.board.now.kept (returns-clause-state c)
