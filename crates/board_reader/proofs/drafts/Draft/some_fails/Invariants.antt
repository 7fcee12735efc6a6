use Rattle.std.proofs.Common.{◌≡◌, ◌+◌, drop}
use Rattle.board_reader.specs.Checks.{some_fails}
use Rattle.board_reader.proofs.drafts.Draft.some_fails.Given as goal

abbrev pub invariant-loop-index : goal.invariant-loop-index
invariant-loop-index l = some_fails l.self l.kind l.words (l.index + 1) (drop l.index l.places) ≡ some_fails l.self l.kind l.words 1 l.places
