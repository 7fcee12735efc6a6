use Rattle.std.proofs.Common.{◌⊎◌}
use Rattle.std.proofs.lemmas.Result.{on_ok_weaker}
use Rattle.plane_core.specs.declared.sides.Side.TheVariants.{Left, Below, Right, Above}
use Rattle.route_law.specs.Moves.{Arrival}
use Rattle.strip_moves.specs.Ways.{IsStepOnSide, IsStepAway}
use Rattle.strip_moves.proofs.Away.{IsStepAround, away_of, of_away}
use Rattle.strip_moves.proofs.Gains.{gains_as, gains_both}
use Rattle.strip_moves.proofs.edges.push_steps.Goals as goal

pub returns : goal.returns
returns g c =
    let d = c.args.d in
    let domain = g.P.Plane.region c.args.plane.now in
    let strips = g.P.Plane.strips c.args.plane.now in
    let left : Arrival → Type 0 = IsStepOnSide strips Left d in
    let below : Arrival → Type 0 = IsStepOnSide strips Below d in
    let right : Arrival → Type 0 = IsStepOnSide strips Right d in
    let above : Arrival → Type 0 = IsStepOnSide strips Above d in
    let m0 = c.args.moves.now in
    let m1 = c.push_steps_on_side.new.moves in
    let m2 = c.push_steps_on_side-2.new.moves in
    let m3 = c.push_steps_on_side-3.new.moves in
    let m4 = c.push_steps_on_side-4.new.moves in
    let two = gains_both d.origin m0 m1 m2 left below c.in_ok-push_steps_on_side.ensures c.in_ok-push_steps_on_side-2.ensures in
    let three = gains_both d.origin m0 m2 m3 (λ a. left a ⊎ below a) right two c.in_ok-push_steps_on_side-3.ensures in
    on_ok_weaker c.push_steps_on_side-4.result
    (λ last.
    gains_as d.origin m0 m4 (IsStepAround strips d) (IsStepAway strips d)
    (away_of domain strips d c.requires.canonical c.requires.passable)
    (of_away domain strips d c.requires.canonical c.requires.passable)
    (gains_both d.origin m0 m3 m4 (λ a. (left a ⊎ below a) ⊎ right a) above three last))
    c.push_steps_on_side-4.ensures
