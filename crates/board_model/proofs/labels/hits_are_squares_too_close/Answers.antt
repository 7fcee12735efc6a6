use Rattle.board_model.proofs.LabelHits.{wire_hits, via_hits}
use Rattle.board_model.proofs.labels.hits_are_squares_too_close.Goals as goal

pub returns-clause-wire : goal.returns-clause-wire
returns-clause-wire c = λ b l k p s. wire_hits b k p s l

pub returns-clause-via : goal.returns-clause-via
returns-clause-via c = λ b k m p s. via_hits b m p s k
