use Rattle.board_text.specs.declared.spelling.Version.TheVariants.{Second}
use Rattle.board_text.proofs.Whole.{spelled-is-read}
use Rattle.text_upgrade.proofs.upgrades.an_upgraded_text_is_read.Goals as goal

pub returns : goal.returns
returns c = λ told h all few. spelled-is-read Second told.parts told.commands tt h all few
