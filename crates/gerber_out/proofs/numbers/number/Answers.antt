use Rattle.std.proofs.Common.{◌≡◌, ◌<◌, ◌^◌, Ok, Err, sym, ◌∙◌, ap, decimal, subst, arith, IsTrue, false, rules}
use Rattle.std.specs.Str.{IsAscii}
use Rattle.std.proofs.lemmas.Fmt.{IsAscii-decimal_wide, parse-decimal_wide}
use Rattle.gerber_out.proofs.Decimals.{not_decimal}
use Rattle.gerber_out.proofs.numbers.number.Goals as goal

pub returns-in_default-clause-none : goal.returns-in_default-clause-none
returns-in_default-clause-none c = λ n le is.
    let wide : n < 10 ^ 64 = omega (arith, c.ranges.most.fits) in
    c.in_default.ensures.none (subst IsAscii is (IsAscii-decimal_wide n wide))

pub returns-in_default-parse-clause-none : goal.returns-in_default-parse-clause-none
returns-in_default-parse-clause-none c = λ n le is.
    let lt : n < 2 ^ 64 = omega (arith, c.ranges.most.fits) in
    let wide : n < 10 ^ 64 = omega (arith, c.ranges.most.fits) in
    let read : c.parse.result ≡ Ok n =
    parse-decimal_wide 64 n c.in-Some.digits.now c.parse.result lt wide (c.in-Some.ensures.some ∙ sym is) c.parse.ensures.value.0 in
    let both : Err c.in_default-parse.field-0 ≡ Ok n = sym c.in_default-parse.is ∙ read in
    cc

pub returns-then-value-most-clause-none : goal.returns-then-value-most-clause-none
returns-then-value-most-clause-none c = λ n le is.
    let lt : n < 2 ^ 64 = omega (arith, c.ranges.most.fits) in
    let same : n ≡ c.in-Ok.value = not_decimal c.in-Some.digits.now n c.in-Ok.value c.parse.result lt (is ∙ sym c.in-Some.ensures.some) c.parse.ensures.value.0 c.in-Ok.is in
    absurd (omega (arith, c.if-value-most.true))

pub returns-then-not-are_alike-clause-none : goal.returns-then-not-are_alike-clause-none
returns-then-not-are_alike-clause-none c = λ n le is.
    let lt : n < 2 ^ 64 = omega (arith, c.ranges.most.fits) in
    let same : n ≡ c.in-Ok.value = not_decimal c.in-Some.digits.now n c.in-Ok.value c.parse.result lt (is ∙ sym c.in-Some.ensures.some) c.parse.ensures.value.0 c.in-Ok.is in
    let spelled : c.as_bytes.result.now ≡ c.args.word.now = c.as_bytes.ensures.value ∙ c.format.ensures.text ∙ ap decimal (sym same) ∙ is in
    let alike : IsTrue false = c.if-not-are_alike.ensures.1 spelled in
    absurd (search rules)
