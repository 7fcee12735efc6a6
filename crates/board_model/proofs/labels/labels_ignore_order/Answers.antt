use Rattle.board_model.proofs.LabelLaws.{same_hits}
use Rattle.board_model.proofs.labels.labels_ignore_order.Goals as goal

pub returns-clause-members : goal.returns-clause-members
returns-clause-members c = λ b r xs ys p same. same_hits b r p xs ys (λ s h. same s)

pub returns-clause-hits : goal.returns-clause-hits
returns-clause-hits c = λ b r xs ys p same. same_hits b r p xs ys same
