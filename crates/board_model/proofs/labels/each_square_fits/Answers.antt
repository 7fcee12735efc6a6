use Rattle.board_model.proofs.SquareFits.{squares_fit}
use Rattle.board_model.proofs.labels.each_square_fits.Goals as goal

pub returns : goal.returns
returns c = λ b k d p h kk dd. squares_fit b h k d kk dd p
