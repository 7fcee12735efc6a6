use Rattle.std.proofs.Common.{◌≡◌, List, length, sym, subst, arith}
use Rattle.plane_core.specs.declared.strips.Strip.{Strip}
use Rattle.plane_core.specs.Choice.{IsChoice}
use Rattle.plane_core.specs.Sides.{IsBeside}
use Rattle.strip_moves.specs.Gains.{IsFromOneOf}
use Rattle.strip_moves.specs.Ways.{IsStepInto, IsStepOnSide}
use Rattle.strip_moves.proofs.Boards.{points_on_board}
use Rattle.strip_moves.proofs.Found.{step_of, of_step}
use Rattle.strip_moves.proofs.Gains.{gains_as, gains_more, gains_whole}
use Rattle.strip_moves.proofs.Sides.{found_inside, found_apart}
use Rattle.strip_moves.proofs.edges.push_steps_on_side.Goals as goal

pub push_step-requires-clause-area : goal.push_step-requires-clause-area
push_step-requires-clause-area g c =
    let domain = g.P.Plane.region c.args.plane.now in
    let strips = g.P.Plane.strips c.args.plane.now in
    let items = c.as_slice-u-items.result.now in
    let choice = subst (λ (ss : List Strip). IsChoice strips (λ s. IsBeside c.args.side c.args.t.area s.area) ss) (sym c.as_slice-u-items.ensures) c.in_ok-found.ensures in
    points_on_board c.u-item.result.area domain
    (found_inside domain strips items c.args.side c.args.t c.requires.canonical c.requires.listed choice c.loop-u.u-index c.u-item.result (omega arith) c.u-item.is)
    c.requires.region

pub push_step-requires-clause-separate : goal.push_step-requires-clause-separate
push_step-requires-clause-separate g c =
    let domain = g.P.Plane.region c.args.plane.now in
    let strips = g.P.Plane.strips c.args.plane.now in
    let items = c.as_slice-u-items.result.now in
    let choice = subst (λ (ss : List Strip). IsChoice strips (λ s. IsBeside c.args.side c.args.t.area s.area) ss) (sym c.as_slice-u-items.ensures) c.in_ok-found.ensures in
    found_apart domain strips items c.args.side c.args.t c.requires.canonical c.requires.listed choice c.loop-u.u-index c.u-item.result (omega arith) c.u-item.is c.args.d.from.strip c.requires.same

pub loop-u-preserved : goal.loop-u-preserved
loop-u-preserved g c =
    gains_more c.args.d.origin (IsStepInto c.args.d) c.args.moves.now c.loop-u.moves c.push_step.new.moves
    c.as_slice-u-items.result.now c.loop-u.u-index c.u-item.result (omega arith) c.u-item.is c.loop-u.invariant c.in_ok-push_step.ensures

pub returns : goal.returns
returns g c =
    let d = c.args.d in
    let t = c.args.t in
    let side = c.args.side in
    let strips = g.P.Plane.strips c.args.plane.now in
    let items = c.as_slice-u-items.result.now in
    let choice : IsChoice strips (λ s. IsBeside side t.area s.area) items = subst (λ (ss : List Strip). IsChoice strips (λ s. IsBeside side t.area s.area) ss) (sym c.as_slice-u-items.ensures) c.in_ok-found.ensures in
    let end : c.loop-u.u-index ≡ length items = omega arith in
    gains_as d.origin c.args.moves.now c.loop-u.moves (IsFromOneOf items (IsStepInto d)) (IsStepOnSide strips side d)
    (step_of strips items d t.area c.requires.same side choice) (of_step strips items d t.area c.requires.same side choice)
    (gains_whole d.origin (IsStepInto d) c.args.moves.now c.loop-u.moves items c.loop-u.u-index end c.loop-u.invariant)
