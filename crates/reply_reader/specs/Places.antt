-- Where a text stops being one of a language: the first line with which it begins none of its texts.
use Rattle.std.specs.Prelude.{◌≡◌, ◌≢◌, ℕ, ◌+◌, List, [], ◌∷◌, ◌++◌, length, All, ◌⊎◌}
use Rattle.std.specs.List.{flat_map}

-- some text of the language begins with these bytes
pub record Begins (IsText : List ℕ → Type 0) (bytes : List ℕ) : Type 0 where
  pub rest : List ℕ
  pub text : IsText (bytes ++ rest)

-- no line feed is among the bytes
abbrev pub IsOneLine : List ℕ → Type 0
IsOneLine bytes = All (λ b. b ≢ 10) bytes

-- the text of these lines, with a line feed after each
abbrev pub lines_text : List (List ℕ) → List ℕ
lines_text lines = flat_map (λ line. line ++ 10 ∷ []) lines

-- the next line is there, and with it the bytes before begin no text
pub record IsWrongLine (IsText : List ℕ → Type 0) (before after : List ℕ) : Type 0 where
  pub line : List ℕ
  pub rest : List ℕ
  pub next : after ≡ line ++ 10 ∷ rest
  pub one : IsOneLine line
  pub wrong : Begins IsText (before ++ line ++ 10 ∷ []) → ⊥

-- the lines before line n begin a text, and line n with them none; or line n has no line feed; or it
-- is not there, since the bytes end before it
pub record StopsAt (IsText : List ℕ → Type 0) (bytes : List ℕ) (n : ℕ) : Type 0 where
  pub lines : List (List ℕ)
  pub after : List ℕ
  pub cut : bytes ≡ lines_text lines ++ after
  pub each : All IsOneLine lines
  pub number : n ≡ length lines + 1
  pub begun : Begins IsText (lines_text lines)
  pub stop : IsWrongLine IsText (lines_text lines) after ⊎ IsOneLine after
