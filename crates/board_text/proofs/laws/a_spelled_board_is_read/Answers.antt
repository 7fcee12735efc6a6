use Rattle.board_text.specs.declared.spelling.Version.TheVariants.{First, Second}
use Rattle.board_text.proofs.Whole.{spelled-is-read}
use Rattle.board_text.proofs.laws.a_spelled_board_is_read.Goals as goal

pub returns-clause-second : goal.returns-clause-second
returns-clause-second c = λ b cs h all few. spelled-is-read Second b cs tt h all few

pub returns-clause-first : goal.returns-clause-first
returns-clause-first c = λ b cs h fits all few. spelled-is-read First b cs fits h all few
