use Rattle.std.proofs.Common.{arith}
use Rattle.net_trace.proofs.Grouped.{opens_all}
use Rattle.net_trace.proofs.open_nets.opens_of.Goals as goal

pub returns : goal.returns
returns c = opens_all c.args.numbers.now c.args.board.now.parts c.args.pieces.now c.loop-net.net c.loop-net.opens (omega (arith, c.nets-net-end.ensures)) c.loop-net.invariant
