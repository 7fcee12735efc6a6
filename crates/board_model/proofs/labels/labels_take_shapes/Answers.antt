use Rattle.board_model.proofs.LabelLaws.{label_among-nil_allowed, label_among-nil_shut, label_among-push_hit, label_among-push_missed}
use Rattle.board_model.proofs.labels.labels_take_shapes.Goals as goal

pub returns-clause-bare : goal.returns-clause-bare
returns-clause-bare c = label_among-nil_allowed

pub returns-clause-shut : goal.returns-clause-shut
returns-clause-shut c = label_among-nil_shut

pub returns-clause-hit : goal.returns-clause-hit
returns-clause-hit c = λ b r shapes s p h. label_among-push_hit b r p shapes s h

pub returns-clause-missed : goal.returns-clause-missed
returns-clause-missed c = λ b r shapes s p miss. label_among-push_missed b r p shapes s miss
