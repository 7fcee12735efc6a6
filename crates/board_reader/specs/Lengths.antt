-- Words whose numbers the program can hold as lengths.
use Rattle.std.specs.Prelude.{ℕ, ◌+◌, ◌^◌, ◌<◌, List}
use Rattle.line_words.specs.Lines.{word}
use Rattle.line_words.specs.Numbers.{number}

-- the number is less than the greatest length that the program can hold
abbrev pub IsShort : List ℕ → Type 0
IsShort w = number w < 2 ^ 31

-- the numbers in this place and the three after it are
pub record HaveShortCorners (ws : List (List ℕ)) (i : ℕ) : Type 0 where
  pub left : IsShort (word ws i)
  pub below : IsShort (word ws (i + 1))
  pub right : IsShort (word ws (i + 2))
  pub above : IsShort (word ws (i + 3))
