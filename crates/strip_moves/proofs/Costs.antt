-- What an entry costs is bounded by its number, since each comes from an earlier one.
use Rattle.std.proofs.Common.{◌≡◌, ℕ, zero, suc, ◌+◌, ◌*◌, ◌^◌, ◌<◌, ◌≤◌, List, length, Some, arith}
use Rattle.std.specs.Prelude.{slice_get}
use Rattle.std.proofs.lemmas.Int.{ints}
use Rattle.std.proofs.lemmas.List.Elements.{All-get_or}
use Rattle.geo_rect.specs.declared.ids.KindId.{KindId}
use Rattle.geo_rect.specs.declared.ids.NetId.{NetId}
use Rattle.geo_rect.specs.declared.ids.Spot.{Spot}
use Rattle.geo_rect.specs.declared.shapes.Interval.{Interval}
use Rattle.geo_rect.specs.declared.shapes.Rect.{Rect}
use Rattle.geo_rect.specs.Axis.{IsSmall}
use Rattle.geo_rect.specs.Distance.{IsDistance}
use Rattle.geo_rect.specs.Line.{between}
use Rattle.geo_rect.specs.Plane.{columns, rows, IsBounded}
use Rattle.board_parts.specs.declared.parts.BoardParts.{BoardParts}
use Rattle.board_parts.specs.Lookup.{kind_of}
use Rattle.board_parts.specs.Rules.{IsBoard, IsKind}
use Rattle.plane_set.specs.Standing.{PlaneTable, HasPlanes}
use Rattle.route_law.specs.declared.certs.Entry.{Entry}
use Rattle.route_law.specs.declared.certs.Origin.{Origin}
use Rattle.route_law.specs.declared.certs.Origin.TheVariants.{Source, Step, Via}
use Rattle.route_law.specs.Ground.{Ground}
use Rattle.route_law.specs.Moves.{Arrival, arrival_of, IsEdgeMove, IsViaMove}
use Rattle.route_law.specs.Right.{IsFrom, IsWellPlaced}
use Rattle.strip_moves.specs.Grounds.{ground_of}
use Rattle.strip_moves.proofs.Boards.{first, has_first}
use Rattle.strip_moves.proofs.Bounded.{part_bounded, strip_bounded, front_bounded}

-- numbers of two small intervals are not far from each other
between_small : (i j : Interval) → IsSmall i → IsSmall j → between i.low j.low ≤ 2 ^ 26
between_small i j s t =
    let a = i.ordered in
    let b = j.ordered in
    omega (arith, ints, s.from, s.to, t.from, t.to, a, b)

-- bounded rectangles are not far from each other
distance_small : (a b : Rect) (n : ℕ) → IsBounded a → IsBounded b → IsDistance a b n → n ≤ 2 ^ 27
distance_small a b n s t d =
    omega (arith, d.least (first a) (first b) (has_first a) (has_first b), between_small (columns a) (columns b) s.across t.across, between_small (rows a) (rows b) s.up t.up)

pub edge_short : (g : Ground) (a c : Arrival) (m : IsEdgeMove g a c) → IsBounded a.front → IsBounded c.strip → m.way ≤ 2 ^ 27
edge_short g a c m s t = distance_small a.front m.edge m.way s (part_bounded m.edge c.strip m.is_edge.in_u t) m.moved.distance

pub via_short : (g : Ground) (k : KindId) (a c : Arrival) (m : IsViaMove g k a c) → IsBounded a.front → IsBounded c.strip → m.way ≤ 2 ^ 27
via_short g k a c m s t = distance_small a.front m.common m.way s (part_bounded m.common c.strip m.is_common.of_all.second t) m.moved.distance

pub charge_small : (b : BoardParts) (k : KindId) → IsBoard b → k.0 < length b.kinds → (kind_of b k).charge ≤ 2 ^ 16
charge_small b k board h =
    let is : IsKind (length b.layers) (kind_of b k) = All-get_or (IsKind (length b.layers)) b.kinds k.0 (record { first = record { 0 = 0 }; last = record { 0 = 0 }; charge = 0 }) h board.each_kind in
    omega (arith, is.charge)

module _ (b : BoardParts) (set : PlaneTable) (n : NetId) (board : IsBoard b) (planes : HasPlanes b set) (known : n.0 < length b.net_names) (sources : List Spot) (entries : List Entry)
    (placed : (m : ℕ) (e : Entry) → slice_get entries m ≡ Some e → IsWellPlaced (ground_of b set n) e)
    (founded : (m : ℕ) (e : Entry) → slice_get entries m ≡ Some e → IsFrom (ground_of b set n) sources entries m (arrival_of e) e.origin) where
  front_at : (m : ℕ) (e : Entry) → slice_get entries m ≡ Some e → IsBounded e.front
  front_at m e h = front_bounded b set n board planes known e (placed m e h)

  cost_from : (m : ℕ) (e : Entry) → IsBounded e.strip → ((k : ℕ) (x : Entry) → k < m → slice_get entries k ≡ Some x → x.cost ≤ k * 2 ^ 28) → (o : Origin) → IsFrom (ground_of b set n) sources entries m (arrival_of e) o → e.cost ≤ m * 2 ^ 28
  cost_from m e s before (Source k) f = omega (arith, f.start.cost)
  cost_from m e s before (Step k) f =
      let x = f.entry in
      omega (arith, before k x f.earlier f.numbered, f.earlier, f.holds.cost, edge_short (ground_of b set n) (arrival_of x) (arrival_of e) f.holds (front_at k x f.numbered) s)
  cost_from m e s before (Via k kind) f =
      let x = f.entry in
      omega (arith, before k x f.earlier f.numbered, f.earlier, f.holds.cost, charge_small b kind board f.holds.via_passable.of_kind, via_short (ground_of b set n) kind (arrival_of x) (arrival_of e) f.holds (front_at k x f.numbered) s)

  cost_below : (limit m : ℕ) (e : Entry) → m < limit → slice_get entries m ≡ Some e → e.cost ≤ m * 2 ^ 28
  cost_below zero m e l h = absurd (omega (arith, l))
  cost_below (suc limit) m e l h =
      cost_from m e (strip_bounded b set n board planes known e (placed m e h)) (λ k x i j. cost_below limit k x (omega (arith, l, i)) j) e.origin (founded m e h)

  pub cost_by_number : (m : ℕ) (e : Entry) → slice_get entries m ≡ Some e → e.cost ≤ m * 2 ^ 28
  cost_by_number m e h = cost_below (m + 1) m e (omega arith) h

  -- what one more entry costs
  pub cost_of_next : (e : Entry) → IsWellPlaced (ground_of b set n) e → IsFrom (ground_of b set n) sources entries (length entries) (arrival_of e) e.origin → e.cost ≤ length entries * 2 ^ 28
  cost_of_next e p f =
      cost_from (length entries) e (strip_bounded b set n board planes known e p) (λ k x i j. cost_by_number k x j) e.origin f
