use Rattle.board_model.proofs.LabelLaws.{label_among-filter}
use Rattle.board_model.proofs.labels.labels_forget_shapes.Goals as goal

pub returns : goal.returns
returns c = λ b r keep shapes p miss. label_among-filter b r p keep shapes miss
