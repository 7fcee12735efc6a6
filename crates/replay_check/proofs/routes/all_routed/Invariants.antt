use Rattle.replay_check.specs.States.{IsUnderWay}
use Rattle.replay_check.proofs.Turns.{AreRoutedSoFar}
use Rattle.replay_check.proofs.routes.all_routed.Given as goal

-- the blocks so far are right, and led to the state
abbrev pub invariant-loop-i : goal.invariant-loop-i
invariant-loop-i g l =
    IsUnderWay l.board.parts l.state.made.lists l.state.planes × AreRoutedSoFar l.board.parts l.fn.first.made.lists l.blocks l.i l.state.made.lists
