-- The reading of a board text: what it says, or the first line that breaks a rule.
use Rattle.std.specs.Prelude.{ℕ, ◌+◌, if◌then◌else◌, List, [], ◌∷◌, Option, Some, None, Result, Ok, Err}
use Rattle.board_parts.specs.declared.commands.Command.{Command}
use Rattle.board_parts.specs.declared.parts.BoardParts.{BoardParts}
use Rattle.board_reader.specs.declared.drafts.Draft.{Draft}
use Rattle.board_reader.specs.declared.forms.Form.{Form}
use Rattle.board_reader.specs.declared.forms.Stage.TheVariants.{Commands}
use Rattle.board_reader.specs.declared.refusals.Refusal.{Refusal}
use Rattle.board_reader.specs.declared.refusals.RefusalKind.{RefusalKind}
use Rattle.board_reader.specs.declared.refusals.RefusalKind.TheVariants.{NoEnd}
use Rattle.board_reader.specs.Checks.{kind_of_line}
use Rattle.board_reader.specs.Drafts.{no_draft, after_form, parts_of}
use Rattle.board_reader.specs.Forms.{form_of, is_stage}
use Rattle.line_words.specs.Lines.{lines, counts, words, word}

-- what a board text says
pub record Told : Type 0 where
  pub parts : BoardParts
  pub commands : List Command

-- what the lines say with one more, of a form or of none
abbrev pub after_words : Draft → Option Form → List (List ℕ) → Draft
after_words d None ws = d
after_words d (Some f) ws = after_form d f ws

-- what the lines say with one more that breaks no rule
abbrev pub after_line : Draft → List ℕ → Draft
after_line d line = after_words d (form_of (word (words line) 0)) (words line)

-- the kind, or else what the lines say
abbrev pub unless : Option RefusalKind → Draft → Result Draft RefusalKind
unless None d = Ok d
unless (Some kind) d = Err kind

-- one line: what the lines say with it, or the kind with which it is refused
unfoldable pub step : Draft → List ℕ → Result Draft RefusalKind
step d line = if counts line then unless (kind_of_line d line) (after_line d line) else Ok d

-- the rest of the lines, or the refusal of line n
abbrev pub goes_on : Result Draft RefusalKind → ℕ → (Draft → Result Told Refusal) → Result Told Refusal
goes_on (Ok d) n rest = rest d
goes_on (Err kind) n rest = Err (record { line = n; kind = kind })

abbrev pub told : Draft → Told
told d = record { parts = parts_of d; commands = d.commands }

-- the lines from number n on, after others that say d
unfoldable pub reading_from : Draft → ℕ → List (List ℕ) → Result Told Refusal
reading_from d n [] = if is_stage d.stage Commands then Ok (told d) else Err (record { line = n; kind = NoEnd })
reading_from d n (line ∷ rest) = goes_on (step d line) n (λ e. reading_from e (n + 1) rest)

-- the reading of a text
unfoldable pub reading : List ℕ → Result Told Refusal
reading text = reading_from no_draft 1 (lines text)
