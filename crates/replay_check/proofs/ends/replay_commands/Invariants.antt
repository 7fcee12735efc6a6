use Rattle.replay_check.specs.Runs.{HasRun}
use Rattle.replay_check.specs.States.{IsUnderWay}
use Rattle.replay_check.proofs.ends.replay_commands.Given as goal

-- the first commands and replies led to the state
abbrev pub invariant-loop-i : goal.invariant-loop-i
invariant-loop-i g l =
    IsUnderWay l.board.parts l.state.made.lists l.state.planes × HasRun l.board.parts l.commands l.replies l.i l.state.made.lists
