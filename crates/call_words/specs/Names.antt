-- The names that may stand among the words of a call.
use Rattle.std.specs.Prelude.{ℕ, ◌≢◌, ◌≤◌, List, length, All, slice_index}
use Rattle.board_parts.specs.Rules.{IsName}

-- a name of the board text that does not begin with a hyphen
pub record IsCallName (bytes : List ℕ) : Type 0 where
  pub name : IsName bytes
  pub plain : slice_index bytes 0 ≢ 45

-- from 1 to 64 such names
pub record AreOthers (names : List (List ℕ)) : Type 0 where
  pub some : 1 ≤ length names
  pub few : length names ≤ 64
  pub each : All IsCallName names
