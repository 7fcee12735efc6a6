use Rattle.std.proofs.Common.{◌≡◌, ◌++◌, drop}
use Rattle.board_model.specs.Shapes.{made_shapes, state_shapes}
use Rattle.board_model.proofs.states.all_shapes.Given as goal

-- with the shapes of the nets that are left the shapes are all of the state's
abbrev pub invariant-loop-net : goal.invariant-loop-net
invariant-loop-net l = l.shapes ++ made_shapes l.board.parts l.net (drop l.net l.made.lists) ≡ state_shapes l.board.parts l.made.lists
