use Rattle.board_model.proofs.LabelHits.{wire_shuts, via_shuts}
use Rattle.board_model.proofs.labels.keepouts_shut_squares.Goals as goal

pub returns-clause-wire : goal.returns-clause-wire
returns-clause-wire c = λ b l k p o. wire_shuts b k p o l

pub returns-clause-via : goal.returns-clause-via
returns-clause-via c = λ b k m p o. via_shuts b m p o k
