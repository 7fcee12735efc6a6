-- Which input is accepted, and what is known of an input that is not told.
use Rattle.std.specs.Prelude.{◌≡◌, ℕ, ◌<◌, ◌≤◌, ◌⊎◌, List, length, Option, Some, None, Ok, Err}
use Rattle.board_reader.specs.Reading.{reading, Told}
use Rattle.board_reader.specs.declared.refusals.Refusal.{Refusal}

-- where a source tells its bytes, P holds of them
abbrev pub IfTold : Option (List ℕ) → (List ℕ → Type 0) → Type 0
IfTold None P = Unit {0}
IfTold (Some bytes) P = P bytes

-- a source tells its bytes, and P holds of them
abbrev pub IsToldAnd : Option (List ℕ) → (List ℕ → Type 0) → Type 0
IsToldAnd None P = ⊥
IsToldAnd (Some bytes) P = P bytes

-- more bytes than the program reads
abbrev pub IsTooLong : List ℕ → Type 0
IsTooLong bytes = 268435456 < length bytes

-- the bytes are no more than the program reads, and a board text: this board and these commands
pub record IsAcceptedAs (told : Told) (bytes : List ℕ) : Type 0 where
  pub short : length bytes ≤ 268435456
  pub read : reading bytes ≡ Ok told

-- the bytes are no more than the program reads, and no board text: this line breaks a rule in this way
pub record IsRefusedAs (refusal : Refusal) (bytes : List ℕ) : Type 0 where
  pub short : length bytes ≤ 268435456
  pub read : reading bytes ≡ Err refusal

abbrev pub IsAccepted : List ℕ → Type 0
IsAccepted bytes = (told : Told) × IsAcceptedAs told bytes

abbrev pub IsRefused : List ℕ → Type 0
IsRefused bytes = IsTooLong bytes ⊎ ((refusal : Refusal) × IsRefusedAs refusal bytes)
