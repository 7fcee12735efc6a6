use Rattle.std.proofs.Common.{◌≡◌, ◌<◌, ◌^◌, ℕ, List, Ok, Err, Result, IsTrue, false, sym, ◌∙◌, ap, decimal, arith, rules}
use Rattle.std.specs.Str.Parse.{ParsesUnsigned}
use Rattle.std.proofs.lemmas.Fmt.{parse-decimal_wide}
use Rattle.call_words.proofs.numbers.number_of.Goals as goal

-- what a number spells is read as it
read_as : {E : Type 0} (word : List ℕ) (n : ℕ) (r : Result ℕ E) → n < 2 ^ 128 → decimal n ≡ word → ParsesUnsigned 128 10 word r → r ≡ Ok n
read_as word n r lt is parsed = parse-decimal_wide 128 n word r lt (omega arith) (sym is) parsed

same_as : {E : Type 0} (word : List ℕ) (n v : ℕ) (r : Result ℕ E) → n < 2 ^ 128 → decimal n ≡ word → ParsesUnsigned 128 10 word r → r ≡ Ok v → n ≡ v
same_as word n v r lt is parsed ok =
    let both : Ok n ≡ Ok v = sym (read_as word n r lt is parsed) ∙ ok in cc

pub returns-in_default-clause-none : goal.returns-in_default-clause-none
returns-in_default-clause-none c = λ n le is.
    let lt : n < 2 ^ 128 = omega (arith, c.ranges.most) in
    let both : Err c.in_default.field-0 ≡ Ok n = sym c.in_default.is ∙ read_as c.args.word.now n c.parse.result lt is c.parse.ensures.value.0 in
    cc

pub returns-then-number-most-clause-none : goal.returns-then-number-most-clause-none
returns-then-number-most-clause-none c = λ n le is.
    let lt : n < 2 ^ 128 = omega (arith, c.ranges.most) in
    let same = same_as c.args.word.now n c.in-Ok.number c.parse.result lt is c.parse.ensures.value.0 c.in-Ok.is in
    absurd (omega (arith, same, le, c.if-number-most.true))

pub returns-then-not-is_spelled_as-clause-none : goal.returns-then-not-is_spelled_as-clause-none
returns-then-not-is_spelled_as-clause-none c = λ n le is.
    let lt : n < 2 ^ 128 = omega (arith, c.ranges.most) in
    let same = same_as c.args.word.now n c.in-Ok.number c.parse.result lt is c.parse.ensures.value.0 c.in-Ok.is in
    let spelled : IsTrue false = c.if-not-is_spelled_as.ensures.1 (ap decimal (sym same) ∙ is) in
    absurd (search rules)
