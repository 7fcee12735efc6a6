use Rattle.std.proofs.Common.{◌≡◌, ◌++◌, drop}
use Rattle.net_trace.specs.Pieces.{made_pieces, pieces_of}
use Rattle.net_trace.proofs.copper.pieces.Given as goal

-- with the pieces of the nets that are left the pieces are all of the state's
abbrev pub invariant-loop-net : goal.invariant-loop-net
invariant-loop-net l = l.pieces ++ made_pieces l.board.parts l.net (drop l.net l.made.lists) ≡ pieces_of l.board.parts l.made.lists
