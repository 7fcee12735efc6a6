use Rattle.replay_check.specs.States.{IsUnderWay}
use Rattle.replay_check.proofs.Turns.{AreMadeSoFar}
use Rattle.replay_check.proofs.routes.make_all.Given as goal

-- the connections so far were made, and led to the state
abbrev pub invariant-loop-m : goal.invariant-loop-m
invariant-loop-m g l =
    IsUnderWay l.board.parts l.state.made.lists l.state.planes × AreMadeSoFar l.board.parts l.fn.first.made.lists l.net l.made l.m-index l.state.made.lists
