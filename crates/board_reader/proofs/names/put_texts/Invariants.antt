use Rattle.std.proofs.Common.{◌≡◌, ◌++◌, map, take}
use Rattle.board_reader.proofs.names.put_texts.Given as goal

abbrev pub invariant-loop-word : goal.invariant-loop-word
invariant-loop-word l = l.texts ≡ l.fn.texts ++ map (λ v. v.items) (take l.word-index l.words)
