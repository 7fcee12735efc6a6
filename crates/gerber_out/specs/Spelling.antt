-- What the lines of the format say, and how each is written.
use Rattle.std.specs.Prelude.{◌≡◌, ℕ, ◌++◌, List, codes, decimal}
use Rattle.gerber_out.specs.declared.spelling.Line.{Line}
use Rattle.gerber_out.specs.declared.spelling.Line.TheVariants.{Plain, Draw}
use Rattle.gerber_out.specs.declared.spelling.Pen.{Pen}
use Rattle.gerber_out.specs.declared.spelling.Pen.TheVariants.{Up, Down}
use Rattle.gerber_out.specs.declared.spelling.Word.{Word}
use Rattle.gerber_out.specs.declared.spelling.Word.TheVariants.{Format, Measure, Polarity, Linear, Begin, Close, End}
use Rattle.gerber_out.specs.Contours.{IsInUnits}

-- a line that says no numbers
abbrev pub word_text : Word → List ℕ
word_text Format = codes "%FSLAX46Y46*%\n"
word_text Measure = codes "%MOMM*%\n"
word_text Polarity = codes "%LPD*%\n"
word_text Linear = codes "G01*\n"
word_text Begin = codes "G36*\n"
word_text Close = codes "G37*\n"
word_text End = codes "M02*\n"

-- how a line with numbers ends
abbrev pub pen_text : Pen → List ℕ
pen_text Up = codes "D02*\n"
pen_text Down = codes "D01*\n"

-- a line, with its line feed
abbrev pub line_text : Line → List ℕ
line_text (Plain w) = word_text w
line_text (Draw pen c) = codes "X" ++ (decimal c.x ++ (codes "Y" ++ (decimal c.y ++ pen_text pen)))

-- the numbers of a line are within their range
abbrev pub IsInRange : Line → Type 0
IsInRange (Plain w) = Unit {0}
IsInRange (Draw pen c) = IsInUnits c

-- the bytes are this line
pub record IsSpelled (line : Line) (bytes : List ℕ) : Type 0 where
  pub text : line_text line ≡ bytes
  pub in_range : IsInRange line
