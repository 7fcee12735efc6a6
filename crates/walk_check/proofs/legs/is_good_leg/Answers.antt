use Rattle.std.proofs.Common.{◌↔◌, IfOk, IsTrue, sym, subst}
use Rattle.board_model.specs.declared.made.Leg.{Leg}
use Rattle.strip_moves.specs.Grounds.{ground_of}
use Rattle.walk_check.specs.Corners.{IsGoodLeg}
use Rattle.walk_check.proofs.legs.is_good_leg.Goals as goal

pub returns-in-Wire : goal.returns-in-Wire
returns-in-Wire g c =
    let ground = ground_of c.args.board.now.parts c.args.planes.now c.args.net in
    let P : Leg → Type 0 = λ leg. IfOk c.is_good_wire.result (λ good. IsTrue good ↔ IsGoodLeg c.args.board.now.parts ground c.args.from leg) in
    subst P (sym c.in-Wire.is) c.is_good_wire.ensures
