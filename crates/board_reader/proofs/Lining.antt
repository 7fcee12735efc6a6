-- The lines of a text, one after the other.
use Rattle.std.proofs.Common.{◌≡◌, ℕ, ◌+◌, List, [], ◌∷◌, Ok, Err, Result, false, if◌then◌else◌, sym, ap, ◌∙◌}
use Rattle.board_reader.specs.declared.drafts.Draft.{Draft}
use Rattle.board_reader.specs.declared.refusals.RefusalKind.{RefusalKind}
use Rattle.board_reader.specs.declared.reading.LineError.{LineError}
use Rattle.board_reader.specs.declared.reading.LineError.TheVariants as line_error
use Rattle.board_reader.specs.declared.refusals.Refusal.{Refusal}
use Rattle.board_reader.specs.declared.refusals.ReadInput.{ReadInput}
use Rattle.board_reader.specs.declared.refusals.ReadInput.TheVariants.{Refused, NoMemory}
use Rattle.board_reader.specs.Contract.{at_line, TellsReading, TellsStep, TellsLines}
use Rattle.board_reader.specs.declared.forms.Stage.TheVariants.{Commands}
use Rattle.board_reader.specs.declared.refusals.RefusalKind.TheVariants.{NoEnd}
use Rattle.board_reader.specs.Forms.{is_stage}
use Rattle.line_words.specs.Lines.{lines}
use Rattle.board_reader.specs.Reading.{Told, told, step, reading_from, goes_on}

-- a line that is read
pub lines-next : (d e : Draft) (n : ℕ) (text line after : List ℕ) → lines text ≡ line ∷ lines after → Ok e ≡ step d line
    → reading_from e (n + 1) (lines after) ≡ reading_from d n (lines text)
unfolding reading_from
lines-next d e n text line after cut said =
    sym (ap (reading_from d n) cut ∙ ap (λ r. goes_on r n (λ x. reading_from x (n + 1) (lines after))) (sym said))

-- a line that is refused
pub lines-stop : (d : Draft) (kind : RefusalKind) (n : ℕ) (text line after : List ℕ) → lines text ≡ line ∷ lines after → Err kind ≡ step d line
    → reading_from d n (lines text) ≡ Err (record { line = n; kind = kind })
unfolding reading_from
lines-stop d kind n text line after cut said =
    ap (reading_from d n) cut ∙ ap (λ r. goes_on r n (λ x. reading_from x (n + 1) (lines after))) (sym said)

-- whatever a line was not read for
pub lines-fail : (d new last : Draft) (e : LineError) (n : ℕ) (text line after : List ℕ) → lines text ≡ line ∷ lines after → TellsStep (Err e) (step d line) new
    → (all : Result Told Refusal) → reading_from d n (lines text) ≡ all → TellsLines (Err (at_line e n)) all last
lines-fail d new last (line_error.Refused kind) n text line after cut said all same = sym same ∙ lines-stop d kind n text line after cut (sym said)
lines-fail d new last line_error.NoMemory n text line after cut said all same = tt

-- the end of a text that has its line `end`
pub ended : (d : Draft) (n : ℕ) → d.stage ≡ Commands → reading_from d n [] ≡ Ok (told d)
unfolding reading_from
ended d n e = ap (λ s. if is_stage s Commands then Ok (told d) else Err (record { line = n; kind = NoEnd })) e

-- the end of one that has none
pub not-ended : (d : Draft) (n : ℕ) → is_stage d.stage Commands ≡ false → reading_from d n [] ≡ Err (record { line = n; kind = NoEnd })
unfolding reading_from
not-ended d n e = ap (λ b. if b then Ok (told d) else Err (record { line = n; kind = NoEnd })) e

pub lines-error : (e : ReadInput) (read : Result Told Refusal) (new : Draft) → TellsLines (Err e) read new → TellsReading (Err e) read
lines-error (Refused refusal) read new h = h
lines-error NoMemory read new h = tt
