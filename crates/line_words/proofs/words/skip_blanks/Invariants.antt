use Rattle.std.proofs.Common.{◌≡◌, drop}
use Rattle.line_words.specs.Lines.{after_blanks}
use Rattle.line_words.proofs.words.skip_blanks.Given as goal

abbrev pub invariant-loop-index : goal.invariant-loop-index
invariant-loop-index l = after_blanks (drop l.index l.line) ≡ after_blanks l.line
