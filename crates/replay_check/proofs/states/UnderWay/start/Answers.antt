use Rattle.replay_check.proofs.Growing.{nothing_under_way}
use Rattle.replay_check.proofs.states.UnderWay.start.Goals as goal

pub returns-clause-state : goal.returns-clause-state
returns-clause-state g c =
    nothing_under_way c.args.board.now.parts c.in_ok-made.made.lists c.in_ok-planes.planes c.in_ok-made.ensures.nets c.in_ok-made.ensures.well_formed c.in_ok-made.ensures.none_made c.in_ok-planes.ensures
