use Rattle.std.proofs.Common.{◌≢◌, ℕ, ◌<◌, List, length, get_or, map, string_bytes}
use Rattle.call_words.proofs.names.are_apart.Given as goal

-- each of the words so far differs from all later ones
abbrev pub invariant-loop-i : goal.invariant-loop-i
invariant-loop-i l =
    (a b : ℕ) (d : List ℕ) → a < l.i → a < b → b < length (map string_bytes l.words) → get_or (map string_bytes l.words) a d ≢ get_or (map string_bytes l.words) b d
