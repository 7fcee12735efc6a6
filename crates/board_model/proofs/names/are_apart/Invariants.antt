use Rattle.std.proofs.Common.{◌≢◌, ℕ, ◌<◌, List, length, get_or}
use Rattle.board_model.proofs.names.are_apart.Given as goal

-- each of the names so far differs from all later ones
abbrev pub invariant-loop-i : goal.invariant-loop-i
invariant-loop-i l =
    (a b : ℕ) (d : List ℕ) → a < l.i → a < b → b < length l.names → get_or l.names a d ≢ get_or l.names b d
