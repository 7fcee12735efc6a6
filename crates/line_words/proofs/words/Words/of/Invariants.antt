use Rattle.std.proofs.Common.{◌≡◌, ◌-◌, ◌++◌, map, take}
use Rattle.line_words.specs.Lines.{words}
use Rattle.line_words.proofs.words.Words.of.Given as goal

abbrev pub invariant-loop : goal.invariant-loop
invariant-loop l = map (λ r. r.now) l.items.items ++ take (9 - l.counter) (words l.rest) ≡ take 9 (words l.line)
