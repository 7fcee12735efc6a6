use Rattle.std.proofs.Common.{◌≡◌, ◌<◌, ◌^◌, sym, ◌∙◌, arith}
use Rattle.reply_reader.proofs.Decimals.{same_decimal}
use Rattle.reply_reader.proofs.first_lines.route_head.Goals as goal

pub returns-then-made-missing-clause-none : goal.returns-then-made-missing-clause-none
returns-then-made-missing-clause-none c = λ h at.
    let made = c.in_ok-made.ensures.some in
    let missing = c.in_ok-missing.ensures.some in
    let a : h.made < 10 ^ 64 = let o = at.order in let m = at.missing.1 in omega arith in
    let b : h.missing < 10 ^ 64 = let m = at.missing.1 in omega arith in
    let d : c.in_ok-made.made < 10 ^ 64 = omega (arith, made.1) in
    let e : c.in_ok-missing.missing < 10 ^ 64 = omega (arith, missing.1) in
    let same : h.made ≡ c.in_ok-made.made = same_decimal h.made c.in_ok-made.made a d (at.made ∙ sym made.0) in
    let same_too : h.missing ≡ c.in_ok-missing.missing = same_decimal h.missing c.in_ok-missing.missing b e (at.missing.0 ∙ sym missing.0) in
    let o = at.order in
    absurd (omega (arith, c.if-made-missing.true))
