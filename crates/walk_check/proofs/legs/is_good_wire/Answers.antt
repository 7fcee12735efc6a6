use Rattle.std.proofs.Common.{◌↔◌, IsTrue}
use Rattle.std.proofs.lemmas.Result.{IfOk-weaker}
use Rattle.board_model.specs.declared.made.Leg.TheVariants.{Wire}
use Rattle.strip_moves.specs.Grounds.{ground_of}
use Rattle.walk_check.specs.Clear.{IsClearWire}
use Rattle.walk_check.specs.Corners.{IsGoodLeg}
use Rattle.walk_check.proofs.GoodLegs.{good_leg}
use Rattle.walk_check.proofs.legs.is_good_wire.Goals as goal

pub returns : goal.returns
returns g c =
    let b = c.args.board.now.parts in
    let set = c.args.planes.now in
    let ground = ground_of b set c.args.net in
    let v = c.args.from in
    let w = c.args.to in
    let form = c.is_wire.ensures.0 c.if-not-is_wire.false in
    IfOk-weaker c.is_clear_wire.result (λ x. IsTrue x ↔ IsClearWire ground v w) (λ x. IsTrue x ↔ IsGoodLeg b ground v (Wire w))
    (λ x h. (λ t. good_leg b set c.args.net c.args.board.now.kept v (Wire w) form (h.0 t), λ k. h.1 k.clear))
    c.is_clear_wire.ensures
