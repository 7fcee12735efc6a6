use Rattle.std.proofs.Common.{refl, sym, ◌∙◌, ap, subst}
use Rattle.std.proofs.lemmas.Bool.{false≢true}
use Rattle.std.proofs.lemmas.Result.{on_ok_weaker}
use Rattle.board_parts.specs.declared.parts.ViaKind.{ViaKind}
use Rattle.route_law.specs.declared.certs.Origin.TheVariants.{Via}
use Rattle.route_law.specs.Ground.{Ground}
use Rattle.route_law.specs.Moves.{arrival_of}
use Rattle.strip_moves.specs.declared.departures.Departure.{Departure}
use Rattle.strip_moves.specs.Grounds.{ground_of}
use Rattle.strip_moves.specs.Spans.{IsOtherLayer, IsViaMoveTo}
use Rattle.strip_moves.specs.Ways.{IsJump}
use Rattle.strip_moves.proofs.ByVias.{no_jump, move_of, of_move}
use Rattle.strip_moves.proofs.Gains.{gains_none, gains_as}
use Rattle.strip_moves.proofs.moves.push_jumps_to.Goals as goal

pub returns-then-not-joins : goal.returns-then-not-joins
returns-then-not-joins g c =
    let d = c.args.d in
    let k = c.args.k in
    let layer = c.args.layer in
    let ground : Ground = ground_of c.args.board.now.parts c.args.planes.now d.net in
    let none = subst (λ (kind : ViaKind). IsOtherLayer kind d.from.layer layer → ⊥) c.kind-kind.ensures.value (λ h. false≢true (sym c.if-not-joins.true ∙ c.joins.ensures.1 h)) in
    gains_none (Via c.args.number k) c.args.moves.now (IsViaMoveTo ground k (arrival_of d.from) layer) (no_jump ground k (arrival_of d.from) layer none)

pub returns : goal.returns
returns g c =
    let b = c.args.board.now.parts in
    let d = c.args.d in
    let k = c.args.k in
    let kind = c.kind-kind.result in
    let layer = c.args.layer in
    let ground : Ground = ground_of b c.args.planes.now d.net in
    let jumps : Departure = record { net = d.net; from = d.from; origin = Via c.args.number k; layer = layer; charge = kind.charge } in
    let vias = g.P.Plane.strips c.vias_of-vias.result.now in
    let strips = g.P.Plane.strips c.wires_of-plane.result.now in
    let charge = ap (λ (v : ViaKind). v.charge) c.kind-kind.ensures.value in
    let other : IsOtherLayer (ground.kind k) d.from.layer layer = subst (λ (v : ViaKind). IsOtherLayer v d.from.layer layer) c.kind-kind.ensures.value (c.joins.ensures.0 c.if-not-joins.false) in
    on_ok_weaker c.push_jumps.result
    (gains_as (Via c.args.number k) c.args.moves.now c.push_jumps.new.moves (IsJump vias strips jumps) (IsViaMoveTo ground k (arrival_of d.from) layer)
    (move_of ground k jumps vias strips c.requires.kind c.requires.layer c.vias_of-vias.ensures.strips c.wires_of-plane.ensures.strips refl charge other)
    (of_move ground k jumps vias strips c.requires.kind c.requires.layer c.vias_of-vias.ensures.strips c.wires_of-plane.ensures.strips refl charge other))
    c.push_jumps.ensures
