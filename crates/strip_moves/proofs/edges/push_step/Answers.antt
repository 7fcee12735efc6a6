use Rattle.std.proofs.Common.{refl}
use Rattle.std.proofs.lemmas.Result.{on_ok_weaker}
use Rattle.board_model.specs.Labels.{Admits}
use Rattle.strip_moves.specs.Ways.{IsThroughDoor, IsStepInto}
use Rattle.strip_moves.proofs.Boards.{points_on_board}
use Rattle.strip_moves.proofs.Gains.{gains_as}
use Rattle.strip_moves.proofs.Ways.{over_this}
use Rattle.strip_moves.proofs.edges.push_step.Goals as goal

pub push_through-requires-clause-door : goal.push_through-requires-clause-door
push_through-requires-clause-door c = points_on_board c.in-Some.door c.args.u.area c.in-Some.ensures.some.in_u c.requires.area

pub returns-in-Some : goal.returns-in-Some
returns-in-Some c =
    let d = c.args.d in
    let u = c.args.u in
    let door = c.in-Some.door in
    let admitted : Admits u.label d.net = c.if-not-admits.ensures.0 refl in
    on_ok_weaker c.push_through.result
    (gains_as d.origin c.args.moves.now c.push_through.new.moves (IsThroughDoor d u.area door) (IsStepInto d u)
    (λ a h. record { admits = admitted; over = record { edge = door; is_edge = c.in-Some.ensures.some; through = h } })
    (λ a h. over_this d u.area door a c.in-Some.ensures.some h.over))
    c.push_through.ensures
