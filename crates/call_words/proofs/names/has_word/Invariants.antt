use Rattle.std.proofs.Common.{◌≢◌, ℕ, ◌<◌, List, get_or, map, string_bytes}
use Rattle.call_words.proofs.names.has_word.Given as goal

-- none of the words so far is the name
abbrev pub invariant-loop-word : goal.invariant-loop-word
invariant-loop-word l = (k : ℕ) (d : List ℕ) → k < l.word-index → get_or (map string_bytes l.words) k d ≢ l.name
