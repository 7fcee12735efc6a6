use Rattle.reply_reader.proofs.Whole.{one_reading}
use Rattle.reply_reader.proofs.laws.texts_spell_one_list.Goals as goal

pub returns-clause-one : goal.returns-clause-one
returns-clause-one c = λ b bytes rs ss kept r s. one_reading b kept bytes rs ss r s

pub returns-clause-either : goal.returns-clause-either
returns-clause-either c = λ b bytes n refused text. refused.none text
