-- What the functions that read answer.
use Rattle.std.specs.Prelude.{◌≡◌, ℕ, [], Result, Ok, Err}
use Rattle.board_reader.specs.declared.drafts.Draft.{Draft}
use Rattle.board_reader.specs.declared.inputs.Input.{Input}
use Rattle.board_reader.specs.declared.reading.LineError.{LineError}
use Rattle.board_reader.specs.declared.reading.LineError.TheVariants as line_error
use Rattle.board_reader.specs.declared.refusals.Refusal.{Refusal}
use Rattle.board_reader.specs.declared.refusals.RefusalKind.{RefusalKind}
use Rattle.board_reader.specs.declared.refusals.ReadInput.{ReadInput}
use Rattle.board_reader.specs.declared.refusals.ReadInput.TheVariants.{Refused, NoMemory}
use Rattle.board_reader.specs.Kept.{IsDraft}
use Rattle.board_reader.specs.Reading.{Told, reading_from}

-- what an input says
abbrev pub told_by : Input → Told
told_by i = record { parts = i.board.parts; commands = i.commands }

-- the answer is the reading, both ways; where there is no memory nothing is said
abbrev pub TellsReading : Result Input ReadInput → Result Told Refusal → Type 0
TellsReading (Ok i) read = read ≡ Ok (told_by i)
TellsReading (Err (Refused refusal)) read = read ≡ Err refusal
TellsReading (Err NoMemory) read = Unit {0}

-- what a line was refused for, with its number
abbrev pub at_line : LineError → ℕ → ReadInput
at_line (line_error.Refused kind) n = Refused (record { line = n; kind = kind })
at_line line_error.NoMemory n = NoMemory

-- the answer for one line, which leaves the draft new
abbrev pub TellsStep : Result (Unit {0}) LineError → Result Draft RefusalKind → Draft → Type 0
TellsStep (Ok done) said new = said ≡ Ok new
TellsStep (Err (line_error.Refused kind)) said new = said ≡ Err kind
TellsStep (Err line_error.NoMemory) said new = Unit {0}

-- the answer for all lines: the number of the line after the last, where the draft is new
abbrev pub TellsLines : Result ℕ ReadInput → Result Told Refusal → Draft → Type 0
TellsLines (Ok next) read new = IsDraft new × (read ≡ reading_from new next [])
TellsLines (Err (Refused refusal)) read new = read ≡ Err refusal
TellsLines (Err NoMemory) read new = Unit {0}
