-- The numbers that may stand among the words of a call.
use Rattle.std.specs.Prelude.{ℕ, ◌^◌, ◌<◌, ◌≤◌}
use Rattle.call_words.specs.declared.requests.Corners.{Corners}

-- a number from 1 to the most
pub record IsFromOne (most n : ℕ) : Type 0 where
  pub from : 1 ≤ n
  pub to : n ≤ most

-- how many nets a generated board may have
abbrev pub IsSize : ℕ → Type 0
IsSize n = IsFromOne 2000 n

-- how many rounds of routing there may be
abbrev pub IsRounds : ℕ → Type 0
IsRounds n = IsFromOne 100 n

-- a number of at most twenty digits
abbrev pub IsNumber : ℕ → Type 0
IsNumber n = n < 10 ^ 20

pub record AreNumbers (c : Corners) : Type 0 where
  pub x0 : IsNumber c.x0
  pub y0 : IsNumber c.y0
  pub x1 : IsNumber c.x1
  pub y1 : IsNumber c.y1
