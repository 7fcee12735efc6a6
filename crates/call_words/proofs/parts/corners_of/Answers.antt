use Rattle.std.proofs.Common.{string_bytes, sym, ◌∙◌, arith}
use Rattle.call_words.proofs.Naming.{four_words, corners-spelled}
use Rattle.call_words.proofs.parts.corners_of.Goals as goal

pub returns-in_err-number_of-in-len4 : goal.returns-in_err-number_of-in-len4
returns-in_err-number_of-in-len4 c =
    let four = four_words string_bytes c.args.words.now c.x0-item.result c.y0-item.result c.x1-item.result c.y1-item.result c.in-len4.len_at_least c.in-len4.len_below c.x0-item.is c.y0-item.is c.x1-item.is c.y1-item.is in
    rw c.from_residual.ensures
    (λ k h. c.in_err-number_of-in-len4.ensures.none k.x0 (omega (arith, h.numbers.x0)) ((corners-spelled _ _ _ _ _ k four h.spelled).x0 ∙ sym c.as_str.ensures.value))

pub returns-in_err-number_of-in-len4-2 : goal.returns-in_err-number_of-in-len4-2
returns-in_err-number_of-in-len4-2 c =
    let four = four_words string_bytes c.args.words.now c.x0-item.result c.y0-item.result c.x1-item.result c.y1-item.result c.in-len4.len_at_least c.in-len4.len_below c.x0-item.is c.y0-item.is c.x1-item.is c.y1-item.is in
    rw c.from_residual-in_err-number_of-in-len4-2.ensures
    (λ k h. c.in_err-number_of-in-len4-2.ensures.none k.y0 (omega (arith, h.numbers.y0)) ((corners-spelled _ _ _ _ _ k four h.spelled).y0 ∙ sym c.as_str-in-len4.ensures.value))

pub returns-in_err-number_of-in-len4-3 : goal.returns-in_err-number_of-in-len4-3
returns-in_err-number_of-in-len4-3 c =
    let four = four_words string_bytes c.args.words.now c.x0-item.result c.y0-item.result c.x1-item.result c.y1-item.result c.in-len4.len_at_least c.in-len4.len_below c.x0-item.is c.y0-item.is c.x1-item.is c.y1-item.is in
    rw c.from_residual-in_err-number_of-in-len4-3.ensures
    (λ k h. c.in_err-number_of-in-len4-3.ensures.none k.x1 (omega (arith, h.numbers.x1)) ((corners-spelled _ _ _ _ _ k four h.spelled).x1 ∙ sym c.as_str-in-len4-2.ensures.value))

pub returns-in_err-number_of-in-len4-4 : goal.returns-in_err-number_of-in-len4-4
returns-in_err-number_of-in-len4-4 c =
    let four = four_words string_bytes c.args.words.now c.x0-item.result c.y0-item.result c.x1-item.result c.y1-item.result c.in-len4.len_at_least c.in-len4.len_below c.x0-item.is c.y0-item.is c.x1-item.is c.y1-item.is in
    rw c.from_residual-in_err-number_of-in-len4-4.ensures
    (λ k h. c.in_err-number_of-in-len4-4.ensures.none k.y1 (omega (arith, h.numbers.y1)) ((corners-spelled _ _ _ _ _ k four h.spelled).y1 ∙ sym c.as_str-in-len4-3.ensures.value))
