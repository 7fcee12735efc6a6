use Rattle.std.proofs.Common.{◌≡◌, List, length, sym, subst, arith}
use Rattle.plane_core.specs.declared.strips.Strip.{Strip}
use Rattle.plane_core.specs.Choice.{IsChoice, Meets}
use Rattle.route_law.specs.declared.certs.Origin.TheVariants.{Source}
use Rattle.strip_moves.specs.Gains.{IsFromOneOf}
use Rattle.strip_moves.specs.Ways.{IsStartIn, IsStartAmong}
use Rattle.strip_moves.proofs.Gains.{gains_as, gains_more, gains_whole}
use Rattle.strip_moves.proofs.InBoxes.{start_among, among_start}
use Rattle.strip_moves.proofs.starts.push_starts.Goals as goal

pub loop-u-preserved : goal.loop-u-preserved
loop-u-preserved g c =
    gains_more (Source c.args.number) (IsStartIn c.args.source c.args.net) c.args.starts.now c.loop-u.starts c.push_start.new.starts
    c.as_slice-u-items.result.now c.loop-u.u-index c.u-item.result (omega arith) c.u-item.is c.loop-u.invariant c.in_ok-push_start.ensures

pub returns : goal.returns
returns g c =
    let o = Source c.args.number in
    let box = c.args.source in
    let net = c.args.net in
    let strips = g.P.Plane.strips c.args.plane.now in
    let items = c.as_slice-u-items.result.now in
    let choice = subst (λ (ss : List Strip). IsChoice strips (λ s. Meets s.area box.area) ss) (sym c.as_slice-u-items.ensures) c.in_ok-found.ensures.found in
    let end : c.loop-u.u-index ≡ length items = omega arith in
    gains_as o c.args.starts.now c.loop-u.starts (IsFromOneOf items (IsStartIn box net)) (IsStartAmong strips box net)
    (start_among strips items box net choice) (among_start strips items box net choice)
    (gains_whole o (IsStartIn box net) c.args.starts.now c.loop-u.starts items c.loop-u.u-index end c.loop-u.invariant)
