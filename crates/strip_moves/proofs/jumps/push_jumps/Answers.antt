use Rattle.std.proofs.Common.{◌≡◌, List, length, sym, subst, arith}
use Rattle.plane_core.specs.declared.strips.Strip.{Strip}
use Rattle.plane_core.specs.Choice.{IsChoice, Meets}
use Rattle.strip_moves.specs.Gains.{IsFromOneOf}
use Rattle.strip_moves.specs.Ways.{IsJumpThrough, IsJump}
use Rattle.strip_moves.proofs.Found.{via_of, of_via}
use Rattle.strip_moves.proofs.Gains.{gains_as, gains_more, gains_whole}
use Rattle.strip_moves.proofs.jumps.push_jumps.Goals as goal

pub loop-w-preserved : goal.loop-w-preserved
loop-w-preserved g c =
    gains_more c.args.d.origin (IsJumpThrough (g.P.Plane.strips c.args.plane.now) c.args.d) c.args.moves.now c.loop-w.moves c.push_jumps_through.new.moves
    c.as_slice-w-items.result.now c.loop-w.w-index c.w-item.result (omega arith) c.w-item.is c.loop-w.invariant c.in_ok-push_jumps_through.ensures

pub returns : goal.returns
returns g c =
    let d = c.args.d in
    let vias = g.P.Plane.strips c.args.vias.now in
    let strips = g.P.Plane.strips c.args.plane.now in
    let items = c.as_slice-w-items.result.now in
    let choice : IsChoice vias (λ s. Meets s.area d.from.strip) items = subst (λ (ss : List Strip). IsChoice vias (λ s. Meets s.area d.from.strip) ss) (sym c.as_slice-w-items.ensures) c.in_ok-found.ensures.found in
    let end : c.loop-w.w-index ≡ length items = omega arith in
    gains_as d.origin c.args.moves.now c.loop-w.moves (IsFromOneOf items (IsJumpThrough strips d)) (IsJump vias strips d)
    (via_of vias strips items d choice) (of_via vias strips items d choice)
    (gains_whole d.origin (IsJumpThrough strips d) c.args.moves.now c.loop-w.moves items c.loop-w.w-index end c.loop-w.invariant)
