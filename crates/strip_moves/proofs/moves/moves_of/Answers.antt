use Rattle.std.proofs.Common.{List, [], refl, subst, arith}
use Rattle.geo_rect.specs.declared.ids.KindId.{KindId}
use Rattle.route_law.specs.declared.certs.Entry.{Entry}
use Rattle.route_law.specs.declared.certs.Origin.TheVariants.{Step, Via}
use Rattle.route_law.specs.Ground.{Ground}
use Rattle.route_law.specs.Moves.{arrival_of, IsEdgeMove, IsViaMove}
use Rattle.strip_moves.specs.declared.departures.Departure.{Departure}
use Rattle.strip_moves.specs.Gains.{Gains}
use Rattle.strip_moves.specs.Grounds.{ground_of}
use Rattle.strip_moves.specs.Ways.{IsStepAway}
use Rattle.strip_moves.proofs.Away.{edge_of, of_edge}
use Rattle.strip_moves.proofs.Boards.{open_on_board}
use Rattle.strip_moves.proofs.Gains.{gains_as, arrival_kept}
use Rattle.strip_moves.proofs.Grounds.{wires_plane, wire_inside}
use Rattle.strip_moves.proofs.AllMoves.{edges_listed, vias_listed, one_kind_more}
use Rattle.strip_moves.proofs.moves.moves_of.Goals as goal

pub push_steps-requires-clause-canonical : goal.push_steps-requires-clause-canonical
push_steps-requires-clause-canonical g c =
    wires_plane c.args.board.now.parts c.args.board.now.kept c.args.net c.requires.net c.args.planes.now c.requires.planes c.args.from.layer c.requires.placed.passable.on_layer
    (g.P.Plane.region c.wires_of-plane.result.now) (g.P.Plane.strips c.wires_of-plane.result.now) c.wires_of-plane.ensures.region c.wires_of-plane.ensures.strips

pub push_steps-requires-clause-open : goal.push_steps-requires-clause-open
push_steps-requires-clause-open g c =
    let b = c.args.board.now.parts in
    open_on_board b c.args.board.now.kept (Step c.args.number) c.args.from
    (wire_inside b c.args.board.now.kept c.args.net c.requires.net c.args.planes.now c.requires.planes c.args.from.layer c.args.from.strip c.requires.placed.passable)
    c.requires.placed.holds c.requires.cost c.args.net

pub loop-kind-init : goal.loop-kind-init
loop-kind-init g c =
    let b = c.args.board.now.parts in
    let n = c.args.number in
    let from = c.args.from in
    let ground : Ground = ground_of b c.args.planes.now c.args.net in
    let strips = g.P.Plane.strips c.wires_of-plane.result.now in
    let steps : Departure = record { net = c.args.net; from = from; origin = Step n; layer = from.layer; charge = 0 } in
    let moves = c.push_steps.new.moves in
    let on_layer = c.requires.placed.passable.on_layer in
    let gains = gains_as (Step n) [] moves (IsStepAway strips steps) (IsEdgeMove ground (arrival_of from))
    (edge_of ground strips steps c.wires_of-plane.ensures.strips refl on_layer refl refl)
    (of_edge ground strips steps c.wires_of-plane.ensures.strips refl on_layer refl refl)
    (subst (λ (old : List Entry). Gains old moves (Step n) (IsStepAway strips steps)) c.new-moves.ensures c.in_ok-push_steps.ensures) in
    record {
      each = edges_listed ground (arrival_of from) n moves gains;
      edges = gains.all;
      vias = λ k a h. absurd (omega arith);
    }

pub push_jumps_by-requires-clause-open : goal.push_jumps_by-requires-clause-open
push_jumps_by-requires-clause-open g c =
    let b = c.args.board.now.parts in
    open_on_board b c.args.board.now.kept (Step c.args.number) c.args.from
    (wire_inside b c.args.board.now.kept c.args.net c.requires.net c.args.planes.now c.requires.planes c.args.from.layer c.args.from.strip c.requires.placed.passable)
    c.requires.placed.holds c.requires.cost c.args.net

pub push_jumps_by-requires-clause-inside : goal.push_jumps_by-requires-clause-inside
push_jumps_by-requires-clause-inside g c =
    let from = c.args.from in
    wire_inside c.args.board.now.parts c.args.board.now.kept c.args.net c.requires.net c.args.planes.now c.requires.planes from.layer from.strip c.requires.placed.passable

pub loop-kind-preserved : goal.loop-kind-preserved
loop-kind-preserved g c =
    let n = c.args.number in
    let a = arrival_of c.args.from in
    let ground : Ground = ground_of c.args.board.now.parts c.args.planes.now c.args.net in
    let m = c.loop-kind.invariant in
    let old = c.loop-kind.moves in
    let new = c.push_jumps_by.new.moves in
    let k : KindId = record { 0 = c.loop-kind.kind } in
    let gains : Gains old new (Via n k) (IsViaMove ground k a) = c.in_ok-push_jumps_by.ensures in
    record {
      each = vias_listed ground a n k old new gains m.each;
      edges = λ x h. arrival_kept old new (Step n) x gains.kept (m.edges x h);
      vias = λ i x h move. one_kind_more ground a n k old new gains i x (omega arith) move (λ before. m.vias i x before move);
    }

pub returns-clause-each : goal.returns-clause-each
returns-clause-each g c = c.loop-kind.invariant.each

pub returns-clause-edges : goal.returns-clause-edges
returns-clause-edges g c = c.loop-kind.invariant.edges

pub returns-clause-vias : goal.returns-clause-vias
returns-clause-vias g c = λ k a h.
    let of_kind = h.via_passable.of_kind in
    c.loop-kind.invariant.vias k a (omega arith) h
