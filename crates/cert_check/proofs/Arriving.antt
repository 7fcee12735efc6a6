-- The fronts of starts and of moves lie in strips that the net may pass, and are all listed.
use Rattle.std.proofs.Common.{ℕ, ◌<◌, List, All, length, subst}
use Rattle.std.proofs.lemmas.List.Elements.{All-contains, All-weaker}
use Rattle.geo_rect.specs.declared.ids.KindId.{KindId}
use Rattle.geo_rect.specs.declared.ids.NetId.{NetId}
use Rattle.geo_rect.specs.declared.ids.Spot.{Spot}
use Rattle.geo_rect.specs.declared.shapes.Point.{Point}
use Rattle.geo_rect.specs.Plane.{HasPoint, IsBounded}
use Rattle.geo_rect.proofs.Clamps.{clamped_point}
use Rattle.board_parts.specs.declared.parts.BoardParts.{BoardParts}
use Rattle.board_parts.specs.Rules.{IsBoard}
use Rattle.plane_set.specs.Standing.{PlaneTable, HasPlanes}
use Rattle.route_law.specs.declared.certs.Cert.{Cert}
use Rattle.route_law.specs.declared.certs.Entry.{Entry}
use Rattle.route_law.specs.declared.certs.Origin.{Origin}
use Rattle.route_law.specs.declared.certs.Origin.TheVariants.{Source, Step, Via}
use Rattle.route_law.specs.Covers.{IsCovered}
use Rattle.route_law.specs.Ground.{Ground}
use Rattle.route_law.specs.Moves.{Arrival, arrival_of, IsEdgeMove, IsViaMove}
use Rattle.route_law.specs.Right.{IsStart}
use Rattle.strip_moves.specs.Grounds.{ground_of}
use Rattle.strip_moves.specs.Listed.{HasArrival, IsStartFrom, IsMoveFrom}
use Rattle.strip_moves.specs.Listed.IsMoveFrom.{by_edge, by_via}
use Rattle.cert_check.specs.Fronts.{HasBoundedFront}
use Rattle.cert_check.specs.Stages.{HasCoveredStarts, HasCoveredMoves}
use Rattle.cert_check.proofs.Meets.{three_third}
use Rattle.strip_moves.proofs.Bounded.{part_bounded, wire_strip_bounded}

edge_front : (g : Ground) (a b : Arrival) (p : Point) → IsEdgeMove g a b → HasPoint b.front p → HasPoint b.strip p
edge_front g a b p m h = m.is_edge.in_u p (clamped_point a.front m.edge b.front p m.moved.clamped h)

via_front : (g : Ground) (k : KindId) (a b : Arrival) (p : Point) → IsViaMove g k a b → HasPoint b.front p → HasPoint b.strip p
via_front g k a b p m h = three_third a.strip m.via_strip b.strip m.common p m.is_common (clamped_point a.front m.common b.front p m.moved.clamped h)

-- an arrival that is listed is covered if the listed ones are
listed_covered : (targets : List Spot) (cert : Cert) (arrivals : List Entry) (o : Origin) (a : Arrival) → All (λ e. IsCovered targets cert (arrival_of e)) arrivals → HasArrival arrivals o a → IsCovered targets cert a
listed_covered targets cert arrivals o a h l =
    subst (IsCovered targets cert) l.same (All-contains (λ (e : Entry). IsCovered targets cert (arrival_of e)) arrivals l.entry h l.listed)

module _ (b : BoardParts) (set : PlaneTable) (n : NetId) (board : IsBoard b) (planes : HasPlanes b set) (known : n.0 < length b.net_names) where
  start_bounded : (box : Spot) (a : Arrival) → IsStart (ground_of b set n) box a → IsBounded a.front
  start_bounded box a s = part_bounded a.front a.strip s.common.first (wire_strip_bounded b set n board planes known a.layer a.strip s.passable)

  edge_bounded : (a c : Arrival) → IsEdgeMove (ground_of b set n) a c → IsBounded c.front
  edge_bounded a c m = part_bounded c.front c.strip (λ p h. edge_front (ground_of b set n) a c p m h) (wire_strip_bounded b set n board planes known c.layer c.strip m.passable)

  via_bounded : (k : KindId) (a c : Arrival) → IsViaMove (ground_of b set n) k a c → IsBounded c.front
  via_bounded k a c m = part_bounded c.front c.strip (λ p h. via_front (ground_of b set n) k a c p m h) (wire_strip_bounded b set n board planes known c.layer c.strip m.passable)

  pub starts_bounded : (box : Spot) (number : ℕ) (starts : List Entry) → All (IsStartFrom (ground_of b set n) box number) starts → All HasBoundedFront starts
  starts_bounded box number starts h =
      All-weaker (IsStartFrom (ground_of b set n) box number) HasBoundedFront (λ e s. start_bounded box (arrival_of e) s.start) starts h

  move_bounded : (a : Arrival) (number : ℕ) (e : Entry) → IsMoveFrom (ground_of b set n) a number e → HasBoundedFront e
  move_bounded a number e (by_edge o m) = edge_bounded a (arrival_of e) m
  move_bounded a number e (by_via k o m) = via_bounded k a (arrival_of e) m

  pub moves_bounded : (a : Arrival) (number : ℕ) (moves : List Entry) → All (IsMoveFrom (ground_of b set n) a number) moves → All HasBoundedFront moves
  moves_bounded a number moves h = All-weaker (IsMoveFrom (ground_of b set n) a number) HasBoundedFront (move_bounded a number) moves h

module _ (g : Ground) (targets : List Spot) (cert : Cert) where
  pub starts_covered : (box : Spot) (number : ℕ) (starts : List Entry) → ((a : Arrival) → IsStart g box a → HasArrival starts (Source number) a) → All (λ e. IsCovered targets cert (arrival_of e)) starts → HasCoveredStarts g targets cert box
  starts_covered box number starts all h = λ a s. listed_covered targets cert starts (Source number) a h (all a s)

  pub covered_starts : (box : Spot) (number : ℕ) (starts : List Entry) → All (IsStartFrom g box number) starts → HasCoveredStarts g targets cert box → All (λ e. IsCovered targets cert (arrival_of e)) starts
  covered_starts box number starts each h =
      All-weaker (IsStartFrom g box number) (λ (e : Entry). IsCovered targets cert (arrival_of e)) (λ e s. h (arrival_of e) s.start) starts each

  pub moves_covered : (from : Entry) (number : ℕ) (moves : List Entry) → ((a : Arrival) → IsEdgeMove g (arrival_of from) a → HasArrival moves (Step number) a) → ((k : KindId) (a : Arrival) → IsViaMove g k (arrival_of from) a → HasArrival moves (Via number k) a) → All (λ e. IsCovered targets cert (arrival_of e)) moves → HasCoveredMoves g targets cert from
  moves_covered from number moves edges vias h = record {
    edges = λ a m. listed_covered targets cert moves (Step number) a h (edges a m);
    vias = λ k a m. listed_covered targets cert moves (Via number k) a h (vias k a m);
  }

  move_covered : (from : Entry) (number : ℕ) → HasCoveredMoves g targets cert from → (e : Entry) → IsMoveFrom g (arrival_of from) number e → IsCovered targets cert (arrival_of e)
  move_covered from number h e (by_edge o m) = h.edges (arrival_of e) m
  move_covered from number h e (by_via k o m) = h.vias k (arrival_of e) m

  pub covered_moves : (from : Entry) (number : ℕ) (moves : List Entry) → All (IsMoveFrom g (arrival_of from) number) moves → HasCoveredMoves g targets cert from → All (λ e. IsCovered targets cert (arrival_of e)) moves
  covered_moves from number moves each h =
      All-weaker (IsMoveFrom g (arrival_of from) number) (λ (e : Entry). IsCovered targets cert (arrival_of e)) (move_covered from number h) moves each
