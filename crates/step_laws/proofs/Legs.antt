-- What a connection keeps of the rules, and that it keeps off the keep-outs: each point of its walk is left
-- to the net.
use Rattle.std.proofs.Common.{ℤ, pos, ◌<◌, ◌+◌, ◌-◌, ◌≤ℤ◌, List, [], ◌∷◌, length, Option, Some, None, All, sym, subst, arith}
use Rattle.std.proofs.lemmas.List.Elements.{All-nil, All-cons, All-append, All-map, All-weaker, All-contains}
use Rattle.std.proofs.lemmas.List.FromFn.{length-range_with_len, get_or-range_with_len}
use Rattle.geo_rect.specs.declared.ids.ClassId.{ClassId}
use Rattle.geo_rect.specs.declared.ids.KindId.{KindId}
use Rattle.geo_rect.specs.declared.ids.LayerId.{LayerId}
use Rattle.geo_rect.specs.declared.ids.NetId.{NetId}
use Rattle.geo_rect.specs.declared.ids.Node.{Node}
use Rattle.geo_rect.specs.declared.shapes.Point.{Point}
use Rattle.geo_rect.specs.Plane.{HasPoint, IsTooClose, square}
use Rattle.board_model.specs.declared.made.Leg.{Leg}
use Rattle.board_model.specs.declared.made.Leg.TheVariants.{Wire, Via}
use Rattle.board_parts.specs.declared.parts.BoardParts.{BoardParts}
use Rattle.board_parts.specs.declared.parts.Keepout.{Keepout}
use Rattle.board_parts.specs.declared.parts.ViaKind.{ViaKind}
use Rattle.board_model.specs.declared.shapes.Shape.{Shape}
use Rattle.board_model.specs.Labels.{wire_plane, via_plane, IsInSpan, IsLeftTo, Shuts}
use Rattle.board_parts.specs.Lookup.{rule_of, pad_on, kind_of, class_of, layer_at, layers_from}
use Rattle.board_parts.specs.Rules.{IsBoard, IsRule}
use Rattle.board_model.specs.Segments.{segment}
use Rattle.board_model.specs.Shapes.{place_of, end_of, net_shape, via_shape, leg_shapes, legs_shapes}
use Rattle.board_parts.specs.Gaps.{gap_to}
use Rattle.board_model.specs.WellFormed.{IsStep, AreSteps}
use Rattle.board_model.proofs.LabelHits.{wire_hits, via_hits, wire_shuts, via_shuts}
use Rattle.board_model.proofs.LabelLaws.{admits_is_left}
use Rattle.board_model.proofs.MadeShapes.{rule_is, gap_is}
use Rattle.board_model.proofs.OwnersGap.{class_known}
use Rattle.board_model.proofs.SquareFits.{squares_fit}
use Rattle.route_law.specs.Boards.{IsGroundOf}
use Rattle.route_law.specs.Connections.{steps_of_leg, steps_of_legs}
use Rattle.route_law.specs.Ground.{Ground, IsPassableNode, IsPassableVia}
use Rattle.route_law.specs.Kept.{KeepsRules, LegKeepsOff, LegsKeepOff}
use Rattle.route_law.specs.Walks.{IsWalk}
use Rattle.route_law.proofs.Law.{first_passable}
use Rattle.route_law.proofs.Legs.{straight_wire, leg_end, walk_parts}
use Rattle.route_law.proofs.OnBoards.{passable_nodes, passable_vias}
use Rattle.walk_check.specs.Clear.{node_at, IsClearWire, IsClearLeg}
use Rattle.walk_check.proofs.Lines.{line_first}
use Rattle.walk_check.proofs.Units.{walk_clear}
use Rattle.step_laws.proofs.Wide.{IsSquareTooClose, square_too_close, segment_on_board, line_last}

-- the net may pass each of the legs, the first from v, and the node in which each ends
abbrev pub AreClear : Ground → Node → List Leg → Type 0
AreClear g v [] = Unit {0}
AreClear g v (leg ∷ legs) = IsClearLeg g v leg × IsPassableNode g (end_of leg) × AreClear g (end_of leg) legs

module _ (b : BoardParts) (g : Ground) where
  leg_clear : (v : Node) (leg : Leg) → IsStep b v leg → IsWalk g v (steps_of_leg v leg) → IsClearLeg g v leg
  leg_clear v (Wire w) s walk = walk_clear g v w (straight_wire v w s.form) walk
  leg_clear v (Via k w) s walk = let P : Point → Type 0 = λ q. IsPassableVia g k q in record { via = subst P s.form.place walk.1.passable; end = walk.2 }

  -- the legs of a walk are clear
  pub legs_clear : (v : Node) (legs : List Leg) → AreSteps b v legs → IsWalk g v (steps_of_legs v legs) → AreClear g v legs
  legs_clear v [] s walk = tt
  legs_clear v (leg ∷ legs) s walk =
      let second : List Leg = steps_of_legs (end_of leg) legs in
      let parts = walk_parts g v (steps_of_leg v leg) second walk in
      let rest : IsWalk g (end_of leg) second = subst (λ (u : Node). IsWalk g u second) (leg_end b v leg s.0) parts.1 in
      (leg_clear v leg s.0 parts.0, first_passable g (end_of leg) second rest, legs_clear (end_of leg) legs s.1 rest)

-- a gap that a class keeps is no less than 1
some_gap : (b : BoardParts) → IsBoard b → (l : LayerId) (c : ClassId) (o : Option NetId) → pos 1 ≤ℤ gap_to b l c o
some_gap b h l c None = (rule_is b h l c).gap.from
some_gap b h l c (Some n) = (gap_is b h l c (class_of b n)).from

-- the layers from one to another are in the span of these
in_span : (k : ViaKind) → All (IsInSpan k) (layers_from k.first k.last)
in_span k =
    All-map (IsInSpan k) layer_at _ (λ i d l.
    let m : i < k.last.0 + 1 - k.first.0 = omega (arith, length-range_with_len k.first.0 (k.last.0 + 1 - k.first.0)) in
    let e = get_or-range_with_len k.first.0 (k.last.0 + 1 - k.first.0) i d m in
    record { from = omega (arith, e); to = omega (arith, e) })

module _ (b : BoardParts) (shapes : List Shape) (n : NetId) (g : Ground) (h : IsBoard b) (known : n.0 < length b.net_names) (o : IsGroundOf b shapes n g) where
  abbrev c : ClassId
  c = class_of b n

  node_left : (v : Node) → IsPassableNode g v → IsLeftTo b (wire_plane b v.layer c) shapes (place_of v) n
  node_left v p =
      (admits_is_left b (wire_plane b v.layer c) (place_of v) shapes n).0 ((passable_nodes b shapes n g v o).0 p).1

  via_left : (k : KindId) (p : Point) → IsPassableVia g k p → IsLeftTo b (via_plane b k c) shapes p n
  via_left k p v = (admits_is_left b (via_plane b k c) p shapes n).0 ((passable_vias b shapes n g k p o).0 v).1

  -- each point of a wire is left to the net where the net may pass it
  wire_left : (v w : Node) → IsClearWire g v w → (p : Point) → HasPoint (segment (place_of v) (place_of w) (pos 0)) p → IsLeftTo b (wire_plane b w.layer c) shapes p n
  wire_left v w clear p i = node_left (node_at p w.layer) (clear.each p i)

  -- the wire keeps the rules where the net may pass each of its points
  wire_keeps : (v w : Node) → IsClearWire g v w → KeepsRules b shapes (net_shape n (segment (place_of v) (place_of w) (rule_of b w.layer c).half) w.layer)
  wire_keeps v w clear =
      let half : ℤ = (rule_of b w.layer c).half in
      let rule : IsRule (rule_of b w.layer c) = rule_is b h w.layer c in
      let left = wire_left v w clear in
      record {
        outline = segment_on_board b.width b.height half (place_of v) (place_of w) (left (place_of v) (line_first v w)).allowed.fits (left (place_of w) (line_last (place_of v) (place_of w))).allowed.fits;
        gaps = λ t member layer owner close.
            let near : IsSquareTooClose (place_of v) (place_of w) half (gap_to b w.layer c t.owner) t.area = square_too_close (place_of v) (place_of w) half _ t.area rule.half.from (some_gap b h w.layer c t.owner) close in
            owner ((left near.point near.inside).own t member ((wire_hits b c near.point t w.layer).1 (layer, near.close)));
      }

  -- so it is too close to no keep-out: the square round some point of it would be
  wire_keeps_off : (v w : Node) → IsClearWire g v w → LegKeepsOff b n v (Wire w)
  wire_keeps_off v w clear = λ k member wires layer close.
      let half : ℤ = (rule_of b w.layer c).half in
      let near : IsSquareTooClose (place_of v) (place_of w) half (pos 1) k.area = square_too_close (place_of v) (place_of w) half (pos 1) k.area (rule_is b h w.layer c).half.from (omega arith) close in
      let clear_of : ¬ Shuts (wire_plane b w.layer c) near.point k = All-contains (λ (x : Keepout). ¬ Shuts (wire_plane b w.layer c) near.point x) b.keepouts k (wire_left v w clear near.point near.inside).allowed.clear member in
      clear_of ((wire_shuts b c near.point k w.layer).1 ((wires, layer), near.close))

  -- a pad of a via keeps the rules where the via may stand
  pad_keeps : (k : KindId) (w : Node) (l : LayerId) → IsPassableVia g k (place_of w) → IsInSpan (kind_of b k) l → KeepsRules b shapes (via_shape b n k (place_of w) l)
  pad_keeps k w l via span =
      let left : IsLeftTo b (via_plane b k c) shapes (place_of w) n = via_left k (place_of w) via in
      record {
        outline = (squares_fit b h k c (omega (arith, via.of_kind, o.kinds)) (class_known b h n known) (place_of w)).0 left.allowed.fits l span;
        gaps = λ t member layer owner close.
            let there : IsInSpan (kind_of b k) t.layer = subst (λ (m : LayerId). IsInSpan (kind_of b k) m) (sym layer) span in
            let near : IsTooClose (square (place_of w) (pad_on b k c t.layer)) t.area (gap_to b t.layer c t.owner) = subst (λ (m : LayerId). IsTooClose (square (place_of w) (pad_on b k c m)) t.area (gap_to b m c t.owner)) (sym layer) close in
            owner (left.own t member ((via_hits b c (place_of w) t k).1 (there, near)));
      }

  -- and is too close to no keep-out
  via_keeps_off : (kind : KindId) (v w : Node) → IsPassableVia g kind (place_of w) → LegKeepsOff b n v (Via kind w)
  via_keeps_off kind v w via = λ k member vias span close.
      let clear_of : ¬ Shuts (via_plane b kind c) (place_of w) k = All-contains (λ (x : Keepout). ¬ Shuts (via_plane b kind c) (place_of w) x) b.keepouts k (via_left kind (place_of w) via).allowed.clear member in
      clear_of ((via_shuts b c (place_of w) k kind).1 ((vias, span), close))

  leg_keeps : (v : Node) (leg : Leg) → IsClearLeg g v leg → All (KeepsRules b shapes) (leg_shapes b n v leg)
  leg_keeps v (Wire w) clear =
      All-cons (KeepsRules b shapes) (net_shape n (segment (place_of v) (place_of w) (rule_of b w.layer c).half) w.layer) [] (wire_keeps v w clear) (All-nil (KeepsRules b shapes))
  leg_keeps v (Via k w) clear =
      All-map (KeepsRules b shapes) (via_shape b n k (place_of w)) _
      (All-weaker (IsInSpan (kind_of b k)) (λ l. KeepsRules b shapes (via_shape b n k (place_of w) l)) (λ l span. pad_keeps k w l clear.via span) _ (in_span (kind_of b k)))

  pub legs_keep : (v : Node) (legs : List Leg) → AreClear g v legs → All (KeepsRules b shapes) (legs_shapes b n v legs)
  legs_keep v [] clear = All-nil (KeepsRules b shapes)
  legs_keep v (leg ∷ legs) clear =
      All-append (KeepsRules b shapes) (leg_shapes b n v leg) (legs_shapes b n (end_of leg) legs) (leg_keeps v leg clear.0) (legs_keep (end_of leg) legs clear.2)

  leg_keeps_off : (v : Node) (leg : Leg) → IsClearLeg g v leg → LegKeepsOff b n v leg
  leg_keeps_off v (Wire w) clear = wire_keeps_off v w clear
  leg_keeps_off v (Via k w) clear = via_keeps_off k v w clear.via

  pub legs_keep_off : (v : Node) (legs : List Leg) → AreClear g v legs → LegsKeepOff b n v legs
  legs_keep_off v [] clear = tt
  legs_keep_off v (leg ∷ legs) clear = (leg_keeps_off v leg clear.0, legs_keep_off (end_of leg) legs clear.2)
