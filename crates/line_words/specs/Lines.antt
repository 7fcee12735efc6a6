-- A text as lines, and a line as words.
use Rattle.std.specs.Prelude.{ℕ, ◌-◌, ◌==◌, nat_le, Bool, false, ◌&&◌, ◌||◌, not, if◌then◌else◌, List, [], ◌∷◌, length, map, take, slice_index, slice_index_or}

-- a space or a tab
abbrev pub is_blank : ℕ → Bool
is_blank b = b == 32 || b == 9

-- a byte that words are made of: printable ASCII, without the blank
abbrev pub is_word_byte : ℕ → Bool
is_word_byte b = nat_le 33 b && nat_le b 126

-- a byte that only a comment may hold
abbrev pub is_other_byte : ℕ → Bool
is_other_byte b = not (is_blank b || is_word_byte b)

-- the byte goes onto the front of the first piece
abbrev pub onto : ℕ → List (List ℕ) → List (List ℕ)
onto b [] = (b ∷ []) ∷ []
onto b (p ∷ ps) = (b ∷ p) ∷ ps

-- what line feeds cut a text into: nothing stands after a last line feed
abbrev pub pieces : List ℕ → List (List ℕ)
pieces [] = []
pieces (b ∷ bs) = if b == 10 then [] ∷ pieces bs else onto b (pieces bs)

-- the line without the one carriage return at its end, if it has one
abbrev pub without_return : List ℕ → List ℕ
without_return line = if slice_index line (length line - 1) == 13 then take (length line - 1) line else line

-- the lines of a text
abbrev pub lines : List ℕ → List (List ℕ)
lines text = map without_return (pieces text)

-- the line from its first byte on that is no blank
abbrev pub after_blanks : List ℕ → List ℕ
after_blanks [] = []
after_blanks (b ∷ bs) = if is_blank b then after_blanks bs else b ∷ bs

-- whether there is a byte, and the first is no number sign
abbrev pub begins_form : List ℕ → Bool
begins_form [] = false
begins_form (b ∷ bs) = not (b == 35)

-- whether the line is neither blank nor a comment
abbrev pub counts : List ℕ → Bool
counts line = begins_form (after_blanks line)

-- whether a word begins with the first byte
abbrev pub begins_word : List ℕ → Bool
begins_word [] = false
begins_word (b ∷ bs) = not (is_blank b)

-- the longest runs of bytes that are no blanks
unfoldable pub words : List ℕ → List (List ℕ)
words [] = []
words (b ∷ bs) = if is_blank b then words bs else if begins_word bs then onto b (words bs) else (b ∷ []) ∷ words bs

-- the word in a place, where the first is at 0
abbrev pub word : List (List ℕ) → ℕ → List ℕ
word ws i = slice_index_or ws i []
