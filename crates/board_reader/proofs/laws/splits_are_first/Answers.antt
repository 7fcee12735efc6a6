use Rattle.board_reader.proofs.Halves.{cut-law, whole-law}
use Rattle.board_reader.proofs.laws.splits_are_first.Goals as goal

pub returns-clause-cut : goal.returns-clause-cut
returns-clause-cut c = cut-law

pub returns-clause-whole : goal.returns-clause-whole
returns-clause-whole c = whole-law
