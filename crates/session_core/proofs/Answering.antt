-- What the search and the way back give is a net's next connection, or that it has none.
use Rattle.std.proofs.Common.{◌≡◌, ◌<◌, ◌≤◌, ℕ, ◌+◌, ◌-◌, List, Some, inl, inr, length, sym, ◌∙◌, ap, subst, refl, arith}
use Rattle.std.specs.Prelude.{slice_get, Option}
use Rattle.std.specs.List.{range_with_len}
use Rattle.std.proofs.lemmas.Option.{slice_get_cases}
use Rattle.std.proofs.lemmas.List.{length-map}
use Rattle.std.proofs.lemmas.List.Elements.{All-get_or}
use Rattle.std.proofs.lemmas.List.FromFn.{length-range_with_len}
use Rattle.geo_rect.specs.declared.ids.LayerId.{LayerId}
use Rattle.geo_rect.specs.declared.ids.NetId.{NetId}
use Rattle.geo_rect.specs.declared.ids.Node.{Node}
use Rattle.geo_rect.specs.declared.ids.Spot.{Spot}
use Rattle.geo_rect.specs.Distance.{IsAway}
use Rattle.board_model.specs.declared.made.Conn.{Conn}
use Rattle.board_parts.specs.declared.parts.BoardParts.{BoardParts}
use Rattle.board_parts.specs.declared.parts.Pin.{Pin}
use Rattle.board_model.specs.Boxes.{spot_on, pin_boxes, boxes_of_some, source_boxes, target_boxes}
use Rattle.board_parts.specs.Lookup.{layer_at, layers_from, pins_of}
use Rattle.board_parts.specs.Rules.{IsBoard, IsPin}
use Rattle.board_model.specs.Shapes.{place_of, state_shapes}
use Rattle.board_model.specs.WellFormed.{IsWellFormed}
use Rattle.plane_set.specs.Standing.{PlaneTable, StandsFor}
use Rattle.route_law.specs.declared.certs.Cert.{Cert}
use Rattle.route_law.specs.declared.certs.Entry.{Entry}
use Rattle.route_law.specs.Connections.{steps_of}
use Rattle.route_law.specs.Ground.{Ground}
use Rattle.route_law.specs.Routing.{next_number, next_targets}
use Rattle.route_law.specs.Walks.{HasNode, IsWalk, IsLeastCost, IsLowerBound, HasNoJoiningWalk, last_node, walk_cost}
use Rattle.strip_moves.specs.Grounds.{ground_of}
use Rattle.strip_moves.proofs.OfShapes.{ground_of_shapes}
use Rattle.tile_search.specs.Answers.{IsRightPath, IsPathEnd, IsRightRefusal}
use Rattle.session_core.specs.declared.attempts.Attempt.{Attempt}
use Rattle.session_core.specs.declared.attempts.Attempt.TheVariants.{Joined, Stuck}
use Rattle.session_core.specs.Attempts.{IsAttempt, IsAttemptOn, IsJoinedOn, IsStuckOn}
use Rattle.session_core.proofs.OnBoard.{pins_within}

layers_there : (first last : LayerId) → first.0 ≤ last.0 → 0 < length (layers_from first last)
layers_there first last order = omega (arith, length-map (range_with_len first.0 (last.0 + 1 - first.0)) layer_at, length-range_with_len first.0 (last.0 + 1 - first.0))

pin_there : (b : BoardParts) (p : Pin) → IsPin b p → 0 < length (pin_boxes p)
pin_there b p h = let some = layers_there p.first p.last h.order in omega (arith, length-map (layers_from p.first p.last) (spot_on p.area))

-- a pin that the net has gives a box to end in
pub targets_there : (b : BoardParts) (n : NetId) (j : ℕ) → IsBoard b → j < length (pins_of b n) → 0 < length (target_boxes b n j)
targets_there b n j board l = elim ((slice_get_cases (pins_of b n) j).1) [
  | inl h ↦ (
      let is : IsPin b h.0 = subst (IsPin b) h.3 (All-get_or (IsPin b) (pins_of b n) j h.0 l (pins_within b n board)) in
      let some : 0 < length (pin_boxes h.0) = pin_there b h.0 is in
      omega (arith, ap (λ (p : Option Pin). length (boxes_of_some p)) h.2))
  | inr h ↦ (let past = h.0 in absurd (omega arith))
]

-- the way that is traced back from a right answer is a connection than which none is cheaper
pub joined_on : (b : BoardParts) (g : Ground) (sources targets : List Spot) (n cost entry : ℕ) (v : Node) (cert : Cert) (conn : Conn)
    → IsRightPath g sources targets cost cert → IsPathEnd targets cert.entries cost entry v → IsLeastCost g sources targets cost
    → IsWellFormed b conn → HasNode sources conn.start → IsWalk g conn.start (steps_of conn)
    → last_node conn.start (steps_of conn) ≡ v → walk_cost g (steps_of conn) ≡ conn.cost
    → ((e : Entry) (w : ℕ) → slice_get cert.entries entry ≡ Some e → IsAway e.front (place_of v) w → conn.cost ≡ e.cost + w)
    → IsJoinedOn b g sources targets n (record { number = n; conn = conn; cert = cert })
joined_on b g sources targets n cost entry v cert conn right end least well starts walk stops own promise =
    let e : cost ≡ conn.cost = end.sum ∙ sym (promise end.entry end.way end.numbered end.away) in
    record {
      same_number = refl;
      least = record {
        connection = record {
          well_formed = well;
          walk = record { starts = starts; walk = walk; ends = subst (HasNode targets) (sym stops) end.of_target };
          cost = own;
        };
        least = subst (λ (d : ℕ). IsLowerBound g sources targets d) e least.least;
      };
      right = right.right;
      bound = right.bound ∙ ap (λ (d : ℕ). Some d) e;
    }

pub stuck_on : (g : Ground) (sources targets : List Spot) (n : ℕ) (cert : Cert) → IsRightRefusal g sources targets cert → HasNoJoiningWalk g sources targets
    → IsStuckOn g sources targets n (record { number = n; cert = cert })
stuck_on g sources targets n cert h none = record { same_number = refl; none = none; right = h.right; bound = h.bound }

module _ (b : BoardParts) (lists : List (List Conn)) (set : PlaneTable) (n : NetId) (board : IsBoard b) (known : n.0 < length b.net_names) (stands : StandsFor b (state_shapes b lists) set) where
  own_attempt : (a : Attempt) → IsAttemptOn b (ground_of b set n) (source_boxes b lists n) (next_targets b lists n) (next_number lists n) a → IsAttempt b lists n a
  own_attempt (Joined m) h = record {
    number = h.same_number;
    ground = ground_of b set n;
    is_ground = ground_of_shapes b board n known (state_shapes b lists) set stands;
    least = h.least;
    right = h.right;
    bound = h.bound;
  }
  own_attempt (Stuck f) h = record {
    number = h.same_number;
    ground = ground_of b set n;
    is_ground = ground_of_shapes b board n known (state_shapes b lists) set stands;
    none = h.none;
    right = h.right;
    bound = h.bound;
  }

  -- an attempt on the planes of a state is one in this state
  pub attempt_of : (sources targets : List Spot) (k : ℕ) (a : Attempt) → sources ≡ source_boxes b lists n → targets ≡ target_boxes b n k → k ≡ next_number lists n
      → IsAttemptOn b (ground_of b set n) sources targets k a → IsAttempt b lists n a
  attempt_of sources targets k a from to number h =
      let g : Ground = ground_of b set n in
      let of_sources : IsAttemptOn b g (source_boxes b lists n) targets k a = subst (λ (s : List Spot). IsAttemptOn b g s targets k a) from h in
      let of_targets : IsAttemptOn b g (source_boxes b lists n) (target_boxes b n k) k a = subst (λ (t : List Spot). IsAttemptOn b g (source_boxes b lists n) t k a) to of_sources in
      own_attempt a (subst (λ (j : ℕ). IsAttemptOn b g (source_boxes b lists n) (target_boxes b n j) j a) number of_targets)
