use Rattle.std.proofs.Common.{◌≡◌, ◌+◌, ◌≤◌, length}
use Rattle.board_reader.specs.Kept.{IsDraft}
use Rattle.line_words.specs.Lines.{lines}
use Rattle.board_reader.specs.Reading.{reading_from}
use Rattle.board_reader.proofs.drafts.Draft.read_lines.Given as goal

abbrev pub invariant-loop-rest : goal.invariant-loop-rest
invariant-loop-rest l = record {
  draft : IsDraft l.self;
  same : reading_from l.self l.number (lines l.rest) ≡ reading_from l.fn.self 1 (lines l.text);
  small : l.number + length l.rest ≤ 1 + length l.text;
}

abbrev pub decreases-loop-rest : goal.decreases-loop-rest
decreases-loop-rest l = length l.rest
