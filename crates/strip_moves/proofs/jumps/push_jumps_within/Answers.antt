use Rattle.std.proofs.Common.{◌≡◌, List, length, sym, subst, arith}
use Rattle.plane_core.specs.declared.strips.Strip.{Strip}
use Rattle.plane_core.specs.Choice.{IsChoice, Meets}
use Rattle.strip_moves.specs.Gains.{IsFromOneOf}
use Rattle.strip_moves.specs.Ways.{IsJumpInto, IsJumpWithin}
use Rattle.strip_moves.proofs.Found.{jump_of, of_jump}
use Rattle.strip_moves.proofs.Gains.{gains_as, gains_more, gains_whole}
use Rattle.strip_moves.proofs.jumps.push_jumps_within.Goals as goal

pub loop-u-preserved : goal.loop-u-preserved
loop-u-preserved g c =
    gains_more c.args.d.origin (IsJumpInto c.args.d c.args.part) c.args.moves.now c.loop-u.moves c.push_jump.new.moves
    c.as_slice-u-items.result.now c.loop-u.u-index c.u-item.result (omega arith) c.u-item.is c.loop-u.invariant c.in_ok-push_jump.ensures

pub returns : goal.returns
returns g c =
    let d = c.args.d in
    let part = c.args.part in
    let strips = g.P.Plane.strips c.args.plane.now in
    let items = c.as_slice-u-items.result.now in
    let choice : IsChoice strips (λ s. Meets s.area part) items = subst (λ (ss : List Strip). IsChoice strips (λ s. Meets s.area part) ss) (sym c.as_slice-u-items.ensures) c.in_ok-found.ensures.found in
    let end : c.loop-u.u-index ≡ length items = omega arith in
    gains_as d.origin c.args.moves.now c.loop-u.moves (IsFromOneOf items (IsJumpInto d part)) (IsJumpWithin strips d part)
    (jump_of strips items d part choice) (of_jump strips items d part choice)
    (gains_whole d.origin (IsJumpInto d part) c.args.moves.now c.loop-u.moves items c.loop-u.u-index end c.loop-u.invariant)
