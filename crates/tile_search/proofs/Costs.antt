-- What starts and moves cost, which leaves room for sums.
use Rattle.std.proofs.Common.{◌≡◌, ℕ, ◌+◌, ◌*◌, ◌^◌, ◌<◌, ◌≤◌, List, All, Contains, length, Some, arith}
use Rattle.std.specs.Prelude.{slice_get}
use Rattle.std.proofs.lemmas.List.Elements.{All-weaker}
use Rattle.geo_rect.specs.declared.ids.NetId.{NetId}
use Rattle.geo_rect.specs.declared.ids.Spot.{Spot}
use Rattle.geo_rect.specs.Plane.{IsBounded}
use Rattle.board_parts.specs.declared.parts.BoardParts.{BoardParts}
use Rattle.board_parts.specs.Rules.{IsBoard}
use Rattle.plane_set.specs.Standing.{PlaneTable, HasPlanes}
use Rattle.route_law.specs.declared.certs.Entry.{Entry}
use Rattle.route_law.specs.Moves.{arrival_of}
use Rattle.route_law.specs.Right.{IsFrom, IsWellPlaced}
use Rattle.route_law.proofs.Numbered.{numbered_listed}
use Rattle.strip_moves.specs.Grounds.{ground_of}
use Rattle.strip_moves.specs.Listed.{IsStartFrom, IsMoveFrom}
use Rattle.strip_moves.specs.Listed.IsMoveFrom.{by_edge, by_via}
use Rattle.strip_moves.proofs.Bounded.{strip_bounded, front_bounded}
use Rattle.strip_moves.proofs.Costs.{edge_short, via_short, charge_small, cost_of_next}
use Rattle.wavefront.specs.Waiting.{Pair}
use Rattle.tile_search.specs.Keys.{HasRoom}
use Rattle.tile_search.specs.Underway.{IsWaiting}
use Rattle.tile_search.proofs.Settled.{start_placed, move_placed}

module _ (b : BoardParts) (set : PlaneTable) (n : NetId) (board : IsBoard b) (planes : HasPlanes b set) (known : n.0 < length b.net_names) where
  -- what a front that waits costs
  pub waiting_cost : (sources targets : List Spot) (entries : List Entry) → ((e : Entry) → Contains entries e → IsWellPlaced (ground_of b set n) e)
      → ((m : ℕ) (e : Entry) → slice_get entries m ≡ Some e → IsFrom (ground_of b set n) sources entries m (arrival_of e) e.origin)
      → (p : Pair) → IsWaiting (ground_of b set n) sources targets entries p → p.entry.cost ≤ length entries * 2 ^ 28
  waiting_cost sources targets entries placed founded p w =
      cost_of_next b set n board planes known sources entries (λ m e h. placed e (numbered_listed entries m e h)) founded p.entry w.placed w.founded

  start_room : (box : Spot) (m : ℕ) (e : Entry) → IsStartFrom (ground_of b set n) box m e → HasRoom e
  start_room box m e h = record {
    front = front_bounded b set n board planes known e (start_placed (ground_of b set n) box e h.start);
    cost = omega (arith, h.start.cost);
  }

  pub starts_room : (box : Spot) (m : ℕ) (starts : List Entry) → All (IsStartFrom (ground_of b set n) box m) starts → All HasRoom starts
  starts_room box m starts h = All-weaker (IsStartFrom (ground_of b set n) box m) HasRoom (start_room box m) starts h

  module _ (e : Entry) (m size : ℕ) (placed : IsWellPlaced (ground_of b set n) e) (cost : e.cost ≤ size * 2 ^ 28) (few : size < 2 ^ 63) where
    move_cost : (x : Entry) → IsBounded x.strip → IsMoveFrom (ground_of b set n) (arrival_of e) m x → x.cost ≤ e.cost + 2 ^ 28
    move_cost x s (by_edge o h) =
        omega (arith, h.cost, edge_short (ground_of b set n) (arrival_of e) (arrival_of x) h (front_bounded b set n board planes known e placed) s)
    move_cost x s (by_via k o h) =
        omega (arith, h.cost, charge_small b k board h.via_passable.of_kind, via_short (ground_of b set n) k (arrival_of e) (arrival_of x) h (front_bounded b set n board planes known e placed) s)

    move_room : (x : Entry) → IsMoveFrom (ground_of b set n) (arrival_of e) m x → HasRoom x
    move_room x h =
        let there = move_placed (ground_of b set n) (arrival_of e) m x h in
        record {
          front = front_bounded b set n board planes known x there;
          cost = omega (arith, cost, few, move_cost x (strip_bounded b set n board planes known x there) h);
        }

    pub moves_room : (moves : List Entry) → All (IsMoveFrom (ground_of b set n) (arrival_of e) m) moves → All HasRoom moves
    moves_room moves h = All-weaker (IsMoveFrom (ground_of b set n) (arrival_of e) m) HasRoom move_room moves h
