use Rattle.std.proofs.Common.{◌∷◌, ap, sym, ◌∙◌, arith, length, ◌<◌, take}
use Rattle.std.proofs.lemmas.List.{take_rest}
use Rattle.std.proofs.lemmas.Bool.{eqb-true, eqb-false}
use Rattle.line_words.specs.Lines.{words}
use Rattle.line_words.proofs.FirstWord.{words-empty, words-first}
use Rattle.line_words.proofs.words.next_word.Goals as goal

pub returns-then-is_empty : goal.returns-then-is_empty
returns-then-is_empty c = words-empty _ _ c.skip_blanks-line.ensures (eqb-true _ _ (sym c.is_empty.ensures ∙ c.if-is_empty.true))

pub returns : goal.returns
returns c =
    let n = c.word_length-length.result in
    let some : 0 < length c.skip_blanks-line.result.now = omega (arith, eqb-false _ 0 (sym c.is_empty.ensures ∙ c.if-is_empty.false)) in
    words-first _ _ _ c.skip_blanks-line.ensures some c.word_length-length.ensures.value
    ∙ ap (λ ws. take n c.skip_blanks-line.result.now ∷ words ws) (sym (take_rest c.skip_blanks-line.result.now n))
