-- The lines that a text is made of, and the words that a line is made of.
use Rattle.std.specs.Prelude.{◌≡◌, ℕ, ◌<◌, ◌≤◌, List, [], ◌∷◌, ◌++◌, length, All, slice_index_or}
use Rattle.std.specs.List.{flat_map}
use Rattle.reply_reader.specs.Parts.{Part}

-- the most words that a line of a reply has
abbrev pub most_words : ℕ
most_words = 14

-- neither a space nor a line feed is in the word
abbrev pub IsLineWord : List ℕ → Type 0
IsLineWord word = All (λ b. 32 < b) word

-- the words, with a space before each
abbrev pub spaced : List (List ℕ) → List ℕ
spaced words = flat_map (λ word. 32 ∷ word) words

-- the line is these words with one space between them, and no other few words are so
pub record AreWordsOf (line : List ℕ) (words : List (List ℕ)) : Type 0 where
  pub joined : spaced words ≡ 32 ∷ line
  pub only : (others : List (List ℕ)) → All IsLineWord others → length others ≤ most_words → spaced others ≡ 32 ∷ line → words ≡ others

-- the word in a place from 0 on, and nothing where there is none
abbrev pub word : List (List ℕ) → ℕ → List ℕ
word words place = slice_index_or words place []

-- some value may be spelled
pub record HasGood {X : Type 0} (p : Part X) : Type 0 where
  pub value : X
  pub good : p.IsGood value

-- each text of the part is a line, of words that determine what it spells
pub record IsLineForm {X : Type 0} (p : Part X) (spelling : X → List (List ℕ)) : Type 0 where
  pub some : HasGood p
  pub spelled : (x : X) → p.IsGood x → 32 ∷ p.text x ≡ spaced (spelling x) ++ 10 ∷ []
  pub clean : (x : X) → p.IsGood x → All IsLineWord (spelling x)
  pub few : (x : X) → p.IsGood x → length (spelling x) ≤ most_words
  pub same : (x y : X) → p.IsGood x → p.IsGood y → spelling x ≡ spelling y → x ≡ y
