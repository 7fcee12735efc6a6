use Rattle.std.proofs.Common.{◌≡◌, replicate, []}
use Rattle.board_model.proofs.made.Made.none.Given as goal

-- the nets so far have an empty list each
abbrev pub invariant-loop-net : goal.invariant-loop-net
invariant-loop-net l = l.lists ≡ replicate l._net []
