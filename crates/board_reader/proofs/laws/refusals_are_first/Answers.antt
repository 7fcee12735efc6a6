use Rattle.board_reader.proofs.Firsts.{refusal-law, told-law}
use Rattle.board_reader.proofs.laws.refusals_are_first.Goals as goal

pub returns-clause-refused : goal.returns-clause-refused
returns-clause-refused c = refusal-law

pub returns-clause-read : goal.returns-clause-read
returns-clause-read c = told-law
