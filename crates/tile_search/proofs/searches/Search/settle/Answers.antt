use Rattle.std.proofs.Common.{◌≡◌, ℕ, ◌<◌, ◌^◌, List, length, All, sym, ap, subst, arith}
use Rattle.geo_rect.specs.declared.ids.KindId.{KindId}
use Rattle.route_law.specs.declared.certs.Entry.{Entry}
use Rattle.route_law.specs.declared.certs.Origin.TheVariants.{Step, Via}
use Rattle.route_law.specs.Ground.{Ground}
use Rattle.route_law.specs.Moves.{Arrival, arrival_of, IsEdgeMove, IsViaMove}
use Rattle.strip_moves.specs.Grounds.{ground_of}
use Rattle.strip_moves.specs.Listed.{HasArrival, IsMoveFrom}
use Rattle.strip_moves.proofs.Bounded.{boxes_bounded, strip_bounded, front_bounded}
use Rattle.tile_search.specs.declared.searches.Search.{Search}
use Rattle.tile_search.proofs.Costs.{moves_room}
use Rattle.tile_search.proofs.Settling.{HasAllMoves, settled_by}
use Rattle.tile_search.proofs.searches.Search.settle.Goals as goal

pub settle-requires : goal.settle-requires
settle-requires g c = front_bounded c.args.board.now.parts c.args.planes.now c.args.net c.args.board.now.kept c.requires.planes c.requires.net c.args.e c.requires.placed

pub goal_of-requires-clause-strip : goal.goal_of-requires-clause-strip
goal_of-requires-clause-strip g c = strip_bounded c.args.board.now.parts c.args.planes.now c.args.net c.args.board.now.kept c.requires.planes c.requires.net c.args.e c.requires.placed

pub goal_of-requires-clause-front : goal.goal_of-requires-clause-front
goal_of-requires-clause-front g c = front_bounded c.args.board.now.parts c.args.planes.now c.args.net c.args.board.now.kept c.requires.planes c.requires.net c.args.e c.requires.placed

pub push_entries-requires-clause-targets : goal.push_entries-requires-clause-targets
push_entries-requires-clause-targets g c = boxes_bounded c.args.board.now.parts c.args.board.now.kept c.args.targets.now c.requires.targets

pub push_entries-requires-clause-room : goal.push_entries-requires-clause-room
push_entries-requires-clause-room g c =
    let number = length c.entries.result.now in
    let same : number ≡ length c.args.self.now.table = ap (λ (es : List Entry). length es) c.entries.ensures.entries in
    let few : length c.args.self.now.table < 2 ^ 63 = omega (arith, same) in
    let ground : Ground = ground_of c.args.board.now.parts c.args.planes.now c.args.net in
    let each = subst (λ (es : List Entry). All (IsMoveFrom ground (arrival_of c.args.e) number) es) (sym c.as_slice.ensures) c.in_ok-moves.ensures.each in
    moves_room c.args.board.now.parts c.args.planes.now c.args.net c.args.board.now.kept c.requires.planes c.requires.net c.args.e number (length c.args.self.now.table) c.requires.placed c.requires.cost few c.as_slice.result.now each

pub returns : goal.returns
returns g c =
    let ground : Ground = ground_of c.args.board.now.parts c.args.planes.now c.args.net in
    let targets = c.args.targets.now in
    let e = c.args.e in
    let old : Search = c.args.self.now in
    let new : Search = record { queue = c.push_entries.new.queue; table = c.settle.new.self; best = c.cheaper-self.result } in
    let moves = c.as_slice.result.now in
    let number = length c.entries.result.now in
    let each = subst (λ (es : List Entry). All (IsMoveFrom ground (arrival_of e) number) es) (sym c.as_slice.ensures) c.in_ok-moves.ensures.each in
    let edges = subst (λ (es : List Entry). (a : Arrival) → IsEdgeMove ground (arrival_of e) a → HasArrival es (Step number) a) (sym c.as_slice.ensures) c.in_ok-moves.ensures.edges in
    let vias = subst (λ (es : List Entry). (k : KindId) (a : Arrival) → IsViaMove ground k (arrival_of e) a → HasArrival es (Via number k) a) (sym c.as_slice.ensures) c.in_ok-moves.ensures.vias in
    let all : HasAllMoves ground targets e moves c.goal_of.result number = record { each = each; edges = edges; vias = vias; goals = c.goal_of.ensures } in
    let same : number ≡ length old.table = ap (λ (es : List Entry). length es) c.entries.ensures.entries in
    let room : length old.table < 2 ^ 63 = omega (arith, same) in
    settled_by ground targets old new e moves c.goal_of.result c.in_ok-push_entries.ensures.pairs
    (subst (λ (n : ℕ). HasAllMoves ground targets e moves c.goal_of.result n) same all)
    room c.in_ok-settle.ensures.settled c.cheaper-self.ensures c.in_ok-push_entries.ensures.pushes
