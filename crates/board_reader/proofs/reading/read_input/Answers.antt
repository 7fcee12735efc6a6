use Rattle.std.proofs.Common.{subst, sym}
use Rattle.board_reader.specs.Contract.{TellsReading}
use Rattle.board_reader.specs.Kept.{IsDraft}
use Rattle.line_words.specs.Lines.{lines}
use Rattle.board_reader.specs.Reading.{reading, reading_from}
use Rattle.board_reader.proofs.Commanding.{commands_of_reading}
use Rattle.board_reader.proofs.Starting.{empty-draft}
use Rattle.board_reader.proofs.reading.read_input.Goals as goal

pub read-requires : goal.read-requires
read-requires c = subst IsDraft (sym c.new-draft.ensures) empty-draft

pub returns-clause-reading : goal.returns-clause-reading
unfolding reading
returns-clause-reading c = subst (λ d. TellsReading c.read.result (reading_from d 1 (lines c.args.bytes.now))) c.new-draft.ensures c.read.ensures

pub returns-clause-commands : goal.returns-clause-commands
returns-clause-commands c = commands_of_reading c.args.bytes.now c.read.result (returns-clause-reading c)
