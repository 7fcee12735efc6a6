use Rattle.std.proofs.Common.{ℕ, ◌<◌, List, get_or, map, string_bytes}
use Rattle.call_words.specs.Names.{IsCallName}
use Rattle.call_words.proofs.names.are_call_names.Given as goal

-- the words so far are names
abbrev pub invariant-loop-word : goal.invariant-loop-word
invariant-loop-word l = (k : ℕ) (d : List ℕ) → k < l.word-index → IsCallName (get_or (map string_bytes l.words) k d)
