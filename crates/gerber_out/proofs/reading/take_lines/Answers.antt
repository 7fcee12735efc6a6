use Rattle.std.proofs.Common.{arith}
use Rattle.gerber_out.proofs.Steps.{line_stands, passed_more}
use Rattle.gerber_out.proofs.reading.take_lines.Goals as goal

pub loop-rest-preserved : goal.loop-rest-preserved
loop-rest-preserved c =
    let line = c.next_line.result.0.now in
    let next = line_stands line c.loop-rest.machine c.take_line.new.machine c.in_ok-take_line.field-0 c.if-not-branch.false c.in_ok-take_line.ensures in
    record {
      passed = passed_more c.args.bytes.now c.loop-rest.rest.now line c.next_line.result.1.now c.loop-rest.number c.loop-rest.machine c.take_line.new.machine
          c.loop-rest.invariant.passed c.next_line.ensures.lines next;
      small = omega (arith, c.next_line.ensures.shorter);
    }
