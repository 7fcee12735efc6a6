use Rattle.std.proofs.Common.{◌≡◌, ◌<◌, ◌^◌, sym, ◌∙◌, arith}
use Rattle.reply_reader.proofs.Decimals.{same_decimal}
use Rattle.reply_reader.proofs.first_lines.all_head.Goals as goal

pub returns-then-nets-eq0-clause-none : goal.returns-then-nets-eq0-clause-none
returns-then-nets-eq0-clause-none c = λ n at.
    let said = c.in_ok-nets.ensures.some in
    let few : n < 10 ^ 64 = let h = at.number.1 in omega arith in
    let few_too : c.in_ok-nets.nets < 10 ^ 64 = omega (arith, said.1) in
    let same : n ≡ c.in_ok-nets.nets = same_decimal n c.in_ok-nets.nets few few_too (at.number.0 ∙ sym said.0) in
    let above : 0 < n = omega (arith, c.if-nets-gt0.true) in
    let some = at.some above in
    absurd (omega (arith, some, c.nets.ensures, c.if-nets-eq0.true))
