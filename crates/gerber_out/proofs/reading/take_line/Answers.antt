use Rattle.gerber_out.proofs.Steps.{line_told}
use Rattle.gerber_out.proofs.reading.take_line.Goals as goal

pub returns-in_default : goal.returns-in_default
returns-in_default c = λ new n. c.in_default.ensures.none n.line n.spelled

pub returns : goal.returns
returns c = line_told c.in-Some.line c.args.bytes.now c.args.machine.now _ _ c.in-Some.ensures.some c.take.ensures
