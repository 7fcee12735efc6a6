use Rattle.std.proofs.Common.{◌≡◌, ◌<◌, ◌^◌, sym, ◌∙◌, arith}
use Rattle.call_words.proofs.Wording.{decimal_is_one}
use Rattle.call_words.proofs.numbers.count_of.Goals as goal

pub returns-then-number-lt1-clause-none : goal.returns-then-number-lt1-clause-none
returns-then-number-lt1-clause-none c = λ n range is.
    let most = c.ranges.most in
    let small : n < 10 ^ 64 = omega (arith, range.to, c.ranges.most) in
    let zero_small : c.in_ok-number.number < 10 ^ 64 = omega (arith, c.if-number-lt1.true) in
    let same : n ≡ c.in_ok-number.number = decimal_is_one n c.in_ok-number.number small zero_small (is ∙ sym c.in_ok-number.ensures.some) in
    absurd (omega (arith, same, range.from, c.if-number-lt1.true))
