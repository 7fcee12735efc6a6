use Rattle.std.proofs.Common.{◌≡◌, ◌+◌, drop}
use Rattle.std.specs.Prelude.{not}
use Rattle.std.specs.List.{prefix_len}
use Rattle.line_words.specs.Lines.{is_blank}
use Rattle.line_words.proofs.words.word_length.Given as goal

abbrev pub invariant-loop-index : goal.invariant-loop-index
invariant-loop-index l = prefix_len (λ b. not (is_blank b)) l.line ≡ l.index + prefix_len (λ b. not (is_blank b)) (drop l.index l.line)
