use Rattle.auto_route.proofs.Touring.{tour_start}
use Rattle.auto_route.proofs.tours.Tour.start.Goals as goal

pub returns-clause-tour : goal.returns-clause-tour
returns-clause-tour c = tour_start c.args.board.now.parts _ c.new.ensures c.in_ok-text_order.ensures
