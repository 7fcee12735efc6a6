-- Where a text is cut in two: at its first line whose only word is `replies`.
use Rattle.std.specs.Prelude.{◌≡◌, ℕ, ◌+◌, min, Bool, false, List, [], ◌∷◌, ◌++◌, length, take, drop, Option, codes, position, All}
use Rattle.std.specs.List.{sum_by}
use Rattle.std.specs.Option.{option_map}
use Rattle.std.specs.Str.{bytes_eq}
use Rattle.board_reader.specs.declared.splits.Split.{Split}
use Rattle.line_words.specs.Lines.{pieces, lines, words}

-- there is one word, and it is this one
abbrev pub is_alone : List ℕ → List (List ℕ) → Bool
is_alone w [] = false
is_alone w (v ∷ []) = bytes_eq v w
is_alone w (v ∷ u ∷ vs) = false

-- the line's only word is `replies`, and its other bytes are all blanks
abbrev pub is_mark : List ℕ → Bool
is_mark line = is_alone (codes "replies") (words line)

-- how many bytes the first n lines of a text have, each with what ends it
abbrev pub bytes_of : List ℕ → ℕ → ℕ
bytes_of text n = min (length text) (sum_by (λ p. length p + 1) (take n (pieces text)))

-- the cut at the line in a place, where the first line is at 0: the bytes before the line, those up to its end, and its number
abbrev pub split_at : List ℕ → ℕ → Split
split_at text n = record { text_end = bytes_of text n; replies_start = bytes_of text (n + 1); lines = n + 1 }

-- the cut at the first line whose only word is `replies`, if there is one
unfoldable pub split_of : List ℕ → Option Split
split_of text = option_map (split_at text) (position is_mark (lines text))

-- the line's only word is `replies`, said of its words
abbrev pub IsMark : List ℕ → Type 0
IsMark line = words line ≡ codes "replies" ∷ []

abbrev pub IsNoMark : List ℕ → Type 0
IsNoMark line = IsMark line → ⊥

-- the text's lines are those of the bytes before the cut, none of which is `replies` alone, that line, and those of the bytes after the cut
pub record IsSplit (text : List ℕ) (s : Split) : Type 0 where
  pub line : List ℕ
  pub cut : lines text ≡ lines (take s.text_end text) ++ line ∷ lines (drop s.replies_start text)
  pub mark : IsMark line
  pub first : All IsNoMark (lines (take s.text_end text))
  pub number : s.lines ≡ length (lines (take s.text_end text)) + 1
