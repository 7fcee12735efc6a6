-- The parts that a text is made of, and what a function answers that reads one of them.
use Rattle.std.specs.Prelude.{◌≡◌, ℕ, ◌+◌, List, ◌++◌, length, drop, All, Result, Ok, Err}
use Rattle.std.specs.List.{flat_map}
use Rattle.reply_reader.specs.declared.readings.ReadReplies.{ReadReplies}
use Rattle.reply_reader.specs.declared.readings.ReadReplies.TheVariants.{Refused, NoMemory}
use Rattle.reply_reader.specs.declared.places.Place.{Place}
use Rattle.reply_reader.specs.Places.{IsOneLine, lines_text, StopsAt}

-- a part of a text: which values it may spell, and how each is spelled
pub record Part (X : Type 0) : Type 1 where
  pub IsGood : X → Type 0
  pub text : X → List ℕ

-- the bytes spell a value of the part
pub record IsTextOf {X : Type 0} (p : Part X) (bytes : List ℕ) : Type 0 where
  pub value : X
  pub good : p.IsGood value
  pub is : p.text value ≡ bytes

-- what a text spells is determined by any bytes that begin with it
pub record IsOne {X : Type 0} (p : Part X) : Type 0 where
  pub same : (x y : X) (u v : List ℕ) → p.IsGood x → p.IsGood y → p.text x ++ u ≡ p.text y ++ v → x ≡ y

-- a part, and then one that depends on it
abbrev pub followed_by : {X Y : Type 0} → Part X → (X → Part Y) → Part (X × Y)
followed_by {X} {Y} p q = record {
  IsGood = λ (v : X × Y). p.IsGood v.0 × (q v.0).IsGood v.1;
  text = λ (v : X × Y). p.text v.0 ++ (q v.0).text v.1;
}

-- so many of a part, one after the other
abbrev pub counted : {X : Type 0} → ℕ → Part X → Part (List X)
counted {X} n p = record {
  IsGood = λ (xs : List X). (length xs ≡ n) × All p.IsGood xs;
  text = λ (xs : List X). flat_map p.text xs;
}

-- from one place to another there stand whole lines, which are the text
pub record IsPassed (from : List ℕ) (line : ℕ) (text to : List ℕ) (next : ℕ) : Type 0 where
  pub cut : from ≡ text ++ to
  pub lines : List (List ℕ)
  pub whole : text ≡ lines_text lines
  pub each : All IsOneLine lines
  pub number : next ≡ line + length lines

-- the bytes, of which the first line has this number, begin with no text of the language, and line n is
-- the first that cannot stand in one
pub record IsRefusedIn (IsText : List ℕ → Type 0) (bytes : List ℕ) (line n : ℕ) : Type 0 where
  pub none : (text more : List ℕ) → IsText text → bytes ≡ text ++ more → ⊥
  pub place : ℕ
  pub stop : StopsAt IsText bytes place
  pub number : n + 1 ≡ line + place

-- the value was read between the two places
pub record IsRead {X : Type 0} (p : Part X) (bytes : List ℕ) (old new : Place) (x : X) : Type 0 where
  pub good : p.IsGood x
  pub passed : IsPassed (drop old.at bytes) old.line (p.text x) (drop new.at bytes) new.line

-- what a function answers that reads a part from a place on
abbrev pub Tells : {X : Type 0} → Part X → List ℕ → Place → Place → Result X ReadReplies → Type 0
Tells p bytes old new (Ok x) = IsRead p bytes old new x
Tells p bytes old new (Err (Refused n)) = IsRefusedIn (IsTextOf p) (drop old.at bytes) old.line n
Tells p bytes old new (Err NoMemory) = Unit {0}
