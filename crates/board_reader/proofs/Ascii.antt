-- The bytes of words are ASCII.
use Rattle.std.proofs.Common.{ℕ, List, All, length, arith, inl, inr}
use Rattle.std.specs.Str.{IsAscii}
use Rattle.std.proofs.lemmas.Bool.{cases_lt}
use Rattle.std.proofs.lemmas.List.{get_or_past}
use Rattle.board_parts.specs.Rules.{IsWordByte}

pub ascii-bytes : (w : List ℕ) → All IsWordByte w → IsAscii w
ascii-bytes w h i =
    elim (cases_lt i (length w)) [
      | inl inside ↦ omega (arith, (h i 0 inside).to)
      | inr past ↦ rw (get_or_past w i 0 past) (omega arith)
    ]
