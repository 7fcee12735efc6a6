use Rattle.std.proofs.Common.{rules, append_assoc}
use Rattle.std.proofs.lemmas.Result.{IfOk-equal}
use Rattle.reply_text.specs.Texts.{area_text}
use Rattle.reply_text.proofs.words.push_area.Goals as goal

pub returns : goal.returns
unfolding area_text
returns c = search (rules, IfOk-equal, append_assoc)
