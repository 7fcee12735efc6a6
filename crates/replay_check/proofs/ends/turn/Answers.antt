use Rattle.std.proofs.Common.{◌≡◌, ◌<◌, length, sym, arith}
use Rattle.std.proofs.lemmas.Result.{IfOk-weaker}
use Rattle.replay_check.proofs.Listing.{one_more, one_more_at, some_weaker, none_weaker}
use Rattle.replay_check.proofs.Prefixes.{run_grows, is_wrong, one_too_many}
use Rattle.replay_check.proofs.ends.turn.Goals as goal

pub returns-clause-run : goal.returns-clause-run
returns-clause-run g c =
    let inside : c.args.i < length c.args.commands.now = omega (arith, c.if-i-commands.false) in
    IfOk-weaker c.step.result _ _
    (λ o e. some_weaker o _ _
    (λ s k. run_grows c.args.board.now.parts c.args.commands.now c.args.replies.now c.args.i c.args.state.made.lists c.requires.run _ c.index-replies-i.result inside c.requires.some_reply (one_more_at c.args.commands.now c.args.i _ inside) (one_more c.args.replies.now c.args.i c.index-replies-i.result c.requires.some_reply (sym c.index-replies-i.is)) s.made.lists k)
    e)
    c.step.ensures.step

pub returns-clause-wrong : goal.returns-clause-wrong
returns-clause-wrong g c =
    let inside : c.args.i < length c.args.commands.now = omega (arith, c.if-i-commands.false) in
    IfOk-weaker c.step.result _ _
    (λ o e. none_weaker o _ _
    (is_wrong c.args.board.now.parts c.args.commands.now c.args.replies.now c.args.i c.args.state.made.lists c.requires.run _ c.index-replies-i.result inside c.requires.some_reply (one_more_at c.args.commands.now c.args.i _ inside) (one_more c.args.replies.now c.args.i c.index-replies-i.result c.requires.some_reply (sym c.index-replies-i.is)))
    e)
    c.step.ensures.none

pub returns-then-i-commands-clause-wrong : goal.returns-then-i-commands-clause-wrong
returns-then-i-commands-clause-wrong g c =
    let all : length c.args.commands.now ≡ c.args.i = omega (arith, c.if-i-commands.true, c.requires.run.some_commands) in
    one_too_many c.args.board.now.parts c.args.commands.now c.args.replies.now c.args.i c.args.state.made.lists c.requires.run all c.requires.some_reply
