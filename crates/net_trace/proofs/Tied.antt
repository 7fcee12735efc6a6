-- What connections that are attached one after another tie to the net's first pin.
use Rattle.std.proofs.Common.{ℕ, ◌≡◌, ◌+◌, ◌<◌, ◌⊎◌, inl, inr, List, [], ◌∷◌, ◌++◌, length, get_or, take, Some, All, refl, ap, sym, ◌∙◌, subst, append-nil, append_assoc}
use Rattle.std.specs.Prelude.{Contains, Option, None, slice_get}
use Rattle.std.specs.List.{flat_map}
use Rattle.std.proofs.lemmas.List.{length_push}
use Rattle.std.proofs.lemmas.List.Elements.{All-nil, All-head, All-tail, All-more, All-get_or, All-contains, Contains-push_cases}
use Rattle.std.proofs.lemmas.Option.{slice_get_within, slice_get-get_or, get_or_from_slice_get}
use Rattle.geo_rect.specs.declared.ids.NetId.{NetId}
use Rattle.geo_rect.specs.declared.ids.Node.{Node}
use Rattle.board_parts.specs.declared.parts.BoardParts.{BoardParts}
use Rattle.board_parts.specs.declared.parts.Pin.{Pin}
use Rattle.board_parts.specs.Lookup.{pins_of}
use Rattle.board_model.specs.declared.made.Conn.{Conn}
use Rattle.board_model.specs.declared.made.Leg.{Leg}
use Rattle.board_model.specs.Boxes.{pin_boxes, leg_boxes, legs_boxes, corner_boxes, conn_boxes, boxes_of_some}
use Rattle.board_model.specs.Shapes.{end_of}
use Rattle.board_model.specs.WellFormed.{AreSteps}
use Rattle.route_law.specs.Walks.{HasNode, last_node}
use Rattle.net_trace.specs.declared.copper.Piece.{Piece}
use Rattle.net_trace.specs.Pieces.{pin_piece, leg_piece, legs_pieces, conn_pieces}
use Rattle.net_trace.specs.Touching.{Touch, AreTouching, AreJoined}
use Rattle.net_trace.proofs.Attached.{IsAttached, AreAttached}
use Rattle.net_trace.proofs.Holding.{touch_at, node_nowhere, node_append, node_flat_map, node_into, node_alone, leg_has_start, leg_has_end, leg_has_boxes}
use Rattle.net_trace.proofs.Joining.{AreTouching-flip, joined_by_touch, joined_to_itself, joined_on}

module _ (pieces : List Piece) where
  -- wherever the two stand among the pieces, the one is joined to the other
  abbrev AreLinked : Piece → Piece → Type 0
  AreLinked p q = (i j : ℕ) → slice_get pieces i ≡ Some p → slice_get pieces j ≡ Some q → AreJoined pieces i j

  linked_by_touch : (p q : Piece) → Touch p q → AreLinked p q
  linked_by_touch p q t i j e f =
      let here : AreTouching pieces i j = record { first = p; second = q; is_first = e; is_second = f; touch = t } in
      joined_by_touch pieces i j j here (joined_to_itself pieces j (slice_get_within pieces j q f))

  linked_back : (p q : Piece) → Touch p q → AreLinked q p
  linked_back p q t i j e f =
      let here : AreTouching pieces j i = record { first = p; second = q; is_first = f; is_second = e; touch = t } in
      joined_by_touch pieces i j j (AreTouching-flip pieces j i here) (joined_to_itself pieces j (slice_get_within pieces j p f))

  pub linked_on : (p q r : Piece) → Contains pieces q → AreLinked p q → AreLinked q r → AreLinked p r
  linked_on p q r c h g i j e f =
      let there : slice_get pieces c.0 ≡ Some q = slice_get-get_or pieces c.0 q c.1 ∙ ap Some c.2 in
      joined_on pieces i c.0 j (h i c.0 e there) (g c.0 j there f)

  module _ (hub : Piece) where
    -- the piece is there, and is joined to the hub and the hub to it
    pub record IsTied (p : Piece) : Type 0 where
      pub listed : Contains pieces p
      pub from_hub : AreLinked hub p
      pub to_hub : AreLinked p hub

    pub tied_itself : Contains pieces hub → Touch hub hub → IsTied hub
    tied_itself c t = record { listed = c; from_hub = linked_by_touch hub hub t; to_hub = linked_by_touch hub hub t }

    tied_on : (p q : Piece) → IsTied p → Contains pieces q → Touch p q → IsTied q
    tied_on p q h c t = record {
      listed = c;
      from_hub = linked_on hub p q h.listed h.from_hub (linked_by_touch p q t);
      to_hub = linked_on q p hub h.listed (linked_back p q t) h.to_hub;
    }

    -- a piece that is tied has the node
    record IsReached (v : Node) : Type 0 where
      piece : Piece
      tied : IsTied piece
      has : HasNode piece.area v

    reach : (v : Node) (q : Piece) → IsReached v → Contains pieces q → HasNode q.area v → IsTied q
    reach v q r c h = tied_on r.piece q r.tied c (touch_at r.piece q v r.has h)

    module _ (b : BoardParts) (n : NetId) where
      -- where legs end, and each node of their boxes, is reached
      record AreLegsReached (v : Node) (legs : List Leg) : Type 0 where
        last : IsReached (last_node v legs)
        boxes : (u : Node) → HasNode (legs_boxes b v legs) u → IsReached u

      legs_reached : (v : Node) (legs : List Leg) → AreSteps b v legs → All (Contains pieces) (legs_pieces b n v legs) → IsReached v → AreLegsReached v legs
      legs_reached v [] s c r = record { last = r; boxes = λ u h. absurd (node_nowhere u h) }
      legs_reached v (leg ∷ legs) s c r = next (legs_reached (end_of leg) legs s.1 (All-tail (Contains pieces) (leg_piece b n v leg) (legs_pieces b n (end_of leg) legs) c) there)
        where
          tied : IsTied (leg_piece b n v leg)
          tied = reach v (leg_piece b n v leg) r (All-head (Contains pieces) (leg_piece b n v leg) (legs_pieces b n (end_of leg) legs) c) (leg_has_start b n v leg s.0)

          there : IsReached (end_of leg)
          there = record { piece = leg_piece b n v leg; tied = tied; has = leg_has_end b n v leg s.0 }

          by : AreLegsReached (end_of leg) legs → (u : Node) → HasNode (leg_boxes b v leg) u ⊎ HasNode (legs_boxes b (end_of leg) legs) u → IsReached u
          by rest u (inl h) = record { piece = leg_piece b n v leg; tied = tied; has = leg_has_boxes b n v leg u h }
          by rest u (inr h) = rest.boxes u h

          next : AreLegsReached (end_of leg) legs → AreLegsReached v (leg ∷ legs)
          next rest = record { last = rest.last; boxes = λ u h. by rest u (node_append (leg_boxes b v leg) (legs_boxes b (end_of leg) legs) u h) }

      -- the boxes of a connection whose start is reached
      corners_reached : (v : Node) (legs : List Leg) → IsReached v → AreLegsReached v legs → (u : Node) → HasNode (corner_boxes b v legs) u → IsReached u
      corners_reached v [] r h u k = record { piece = r.piece; tied = r.tied; has = node_alone r.piece v u r.has k }
      corners_reached v (leg ∷ legs) r h u k = h.boxes u k

      -- with these connections the net's first pins are tied, one more than there are connections, and each node
      -- of the connections' boxes is reached
      pub record IsStage (before : List Conn) : Type 0 where
        pub pins : All (λ (p : Pin). IsTied (pin_piece p)) (take (length before + 1) (pins_of b n))
        nodes : (u : Node) → HasNode (flat_map (conn_boxes b) before) u → IsReached u

      pub first_stage : (d : Pin) → 0 < length (pins_of b n) → IsTied (pin_piece (get_or (pins_of b n) 0 d)) → IsStage []
      first_stage d l t = record {
        pins = All-more (λ (p : Pin). IsTied (pin_piece p)) (pins_of b n) 0 d l (All-nil (λ (p : Pin). IsTied (pin_piece p))) t;
        nodes = λ u h. absurd (node_nowhere u h);
      }

      module _ (pins_there : All (λ (p : Pin). Contains pieces (pin_piece p)) (pins_of b n)) where
        start_reached : (before : List Conn) (v : Node) → IsStage before → HasNode (flat_map pin_boxes (take (length before + 1) (pins_of b n))) v ⊎ HasNode (flat_map (conn_boxes b) before) v → IsReached v
        start_reached before v s (inl h) =
            let m = node_flat_map pin_boxes (take (length before + 1) (pins_of b n)) v h in
            record { piece = pin_piece m.0; tied = All-contains (λ (p : Pin). IsTied (pin_piece p)) (take (length before + 1) (pins_of b n)) m.0 s.pins m.1; has = m.2 }
        start_reached before v s (inr h) = s.nodes v h

        -- the pin on which the node is that is reached
        target_tied : (k : ℕ) (v : Node) (o : Option Pin) → slice_get (pins_of b n) k ≡ o → HasNode (boxes_of_some o) v → IsReached v → All (λ (p : Pin). IsTied (pin_piece p)) (take k (pins_of b n)) → All (λ (p : Pin). IsTied (pin_piece p)) (take (k + 1) (pins_of b n))
        target_tied k v None e h r a = absurd (node_nowhere v h)
        target_tied k v (Some q) e h r a =
            let l = slice_get_within (pins_of b n) k q e in
            let same : get_or (pins_of b n) k q ≡ q = get_or_from_slice_get (pins_of b n) k q q e in
            let there : Contains pieces (pin_piece q) = subst (λ (p : Pin). Contains pieces (pin_piece p)) same (All-get_or (λ (p : Pin). Contains pieces (pin_piece p)) (pins_of b n) k q l pins_there) in
            All-more (λ (p : Pin). IsTied (pin_piece p)) (pins_of b n) k q l a (subst (λ (p : Pin). IsTied (pin_piece p)) (sym same) (reach v (pin_piece q) r there h))

        next_stage : (before : List Conn) (c : Conn) → IsAttached b n before c → All (Contains pieces) (conn_pieces b n c) → IsStage before → IsStage (before ++ c ∷ [])
        next_stage before c a there s = record {
          pins = subst (λ (k : ℕ). All (λ (p : Pin). IsTied (pin_piece p)) (take (k + 1) (pins_of b n))) (sym (length_push before c)) (target_tied (length before + 1) (last_node c.start c.legs) (slice_get (pins_of b n) (length before + 1)) refl a.ends legs.last s.pins);
          nodes = λ u h. by u (node_flat_map (conn_boxes b) (before ++ c ∷ []) u h);
        }
          where
            start : IsReached c.start
            start = start_reached before c.start s (node_append (flat_map pin_boxes (take (length before + 1) (pins_of b n))) (flat_map (conn_boxes b) before) c.start a.starts)

            legs : AreLegsReached c.start c.legs
            legs = legs_reached c.start c.legs a.well_formed.steps there start

            by : (u : Node) → (x : Conn) × Contains (before ++ c ∷ []) x × HasNode (conn_boxes b x) u → IsReached u
            by u m = elim (Contains-push_cases before c m.0 m.1) [
              | inl d ↦ s.nodes u (node_into (conn_boxes b) before m.0 u d m.2)
              | inr e ↦ corners_reached c.start c.legs start legs u (subst (λ (x : Conn). HasNode (conn_boxes b x) u) (sym e) m.2)
            ]

        pub all_stages : (before cs : List Conn) → AreAttached b n before cs → All (λ (c : Conn). All (Contains pieces) (conn_pieces b n c)) cs → IsStage before → IsStage (before ++ cs)
        all_stages before [] a there s = subst IsStage (sym (append-nil before)) s
        all_stages before (c ∷ cs) a there s =
            subst IsStage (append_assoc before (c ∷ []) cs)
            (all_stages (before ++ c ∷ []) cs a.1 (All-tail (λ (x : Conn). All (Contains pieces) (conn_pieces b n x)) c cs there)
            (next_stage before c a.0 (All-head (λ (x : Conn). All (Contains pieces) (conn_pieces b n x)) c cs there) s))
