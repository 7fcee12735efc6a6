use Rattle.std.proofs.Common.{rules}
use Rattle.gerber_out.proofs.Filling.{filled}
use Rattle.gerber_out.proofs.machine.Machine.fill.Goals as goal

pub returns : goal.returns
returns c =
    filled c.args.self.now c.as_slice.result.now c.in-Some.area c.new.result c.push.new.self (search rules) c.as_slice.ensures c.in-Some.ensures.some c.new.ensures c.in_ok-push.ensures.ok
