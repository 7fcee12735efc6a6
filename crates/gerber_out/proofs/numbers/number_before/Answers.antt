use Rattle.std.proofs.Common.{◌<◌, ◌^◌, arith}
use Rattle.gerber_out.proofs.Decimals.{not_before, before_first}
use Rattle.gerber_out.proofs.numbers.number_before.Goals as goal

pub returns-in_default-clause-none : goal.returns-in_default-clause-none
returns-in_default-clause-none c = λ n rest le e. not_before c.args.bytes.now c.args.end c.in_default.ensures n rest e

pub returns-in_default-number-clause-none : goal.returns-in_default-number-clause-none
returns-in_default-number-clause-none c = λ n rest le e.
    let wide : n < 10 ^ 64 = omega (arith, c.ranges.most.fits) in
    c.in_default-number.ensures.none n le (before_first c.args.bytes.now _ _ c.args.end c.requires c.in-Some.ensures.0 c.in-Some.ensures.1 n rest wide e)
