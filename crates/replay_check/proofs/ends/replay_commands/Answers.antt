use Rattle.std.proofs.Common.{ℕ, ◌≡◌, ◌+◌, ◌<◌, length, sym, subst, arith}
use Rattle.route_law.specs.Steps.{IsFirstWrong}
use Rattle.replay_check.proofs.Prefixes.{one_is_missing}
use Rattle.replay_check.proofs.ends.replay_commands.Goals as goal

pub returns-then-replies-commands : goal.returns-then-replies-commands
returns-then-replies-commands g c =
    let b = c.args.board.now.parts in
    let all : length c.args.replies.now ≡ c.loop-i.i = omega (arith, c.loop-i-test.false, c.loop-i.auto.i-end) in
    let more : c.loop-i.i < length c.args.commands.now = omega (arith, all, c.if-replies-commands.true) in
    let P : ℕ → Type 0 = λ n. IsFirstWrong b c.args.commands.now c.args.replies.now (n + 1) in
    record { exact = subst P (sym all) (one_is_missing b c.args.commands.now c.args.replies.now c.loop-i.i c.loop-i.state.made.lists c.loop-i.invariant.1 all more) }
