-- That each shape of a state is known, where the connections are well formed.
use Rattle.std.specs.Prelude.{◌==◌}
use Rattle.std.proofs.Common.{◌≡◌, ℕ, ℤ, pos, ◌+◌, ◌-◌, ◌<◌, ◌≤◌, List, [], ◌∷◌, ◌++◌, length, get_or, drop, All, ap, ◌∙◌, sym, subst, ◌⊎◌, inl, inr, arith, append-nil}
use Rattle.std.specs.List.{flat_map}
use Rattle.std.proofs.lemmas.Bool.{cases_lt, cond_both}
use Rattle.std.proofs.lemmas.Int.{ints, clamps}
use Rattle.std.proofs.lemmas.List.{get_or_past, drop_all}
use Rattle.std.proofs.lemmas.List.Elements.{All-nil, All-cons, All-head, All-tail, All-append, All-map, All-weaker, All-get_or}
use Rattle.geo_rect.specs.declared.ids.ClassId.{ClassId}
use Rattle.geo_rect.specs.declared.ids.KindId.{KindId}
use Rattle.geo_rect.specs.declared.ids.LayerId.{LayerId}
use Rattle.geo_rect.specs.declared.ids.NetId.{NetId}
use Rattle.geo_rect.specs.declared.ids.Node.{Node}
use Rattle.geo_rect.specs.declared.shapes.Point.{Point}
use Rattle.geo_rect.specs.Plane.{square}
use Rattle.board_parts.specs.declared.parts.BoardParts.{BoardParts}
use Rattle.board_parts.specs.declared.parts.ViaKind.{ViaKind}
use Rattle.board_model.specs.declared.shapes.Shape.{Shape}
use Rattle.board_model.specs.declared.made.Conn.{Conn}
use Rattle.board_model.specs.declared.made.Leg.{Leg}
use Rattle.board_model.specs.declared.made.Leg.TheVariants.{Wire, Via}
use Rattle.board_model.specs.Known.{IsNearZero, IsNearOrigin, IsKnown}
use Rattle.board_parts.specs.Lookup.{rule_of, gap_of, pad_of, inner_of, pad_on, kind_of, class_of, layer_at, layers_from}
use Rattle.board_parts.specs.Rules.{IsBoard, IsMeasure, IsRule, IsKind}
use Rattle.board_model.specs.Segments.{stretch, segment}
use Rattle.board_model.specs.Shapes.{place_of, end_of, net_shape, via_shape, leg_shapes, legs_shapes, conn_shapes, made_shapes, board_shapes, state_shapes}
use Rattle.board_model.specs.WellFormed.{IsCoordinate, IsPlace, IsCorner, IsStep, AreSteps, IsWellFormed, AreWellFormed}
use Rattle.board_model.proofs.Squares.{segment-square}
use Rattle.board_model.proofs.StateShapes.{All-flat_map, numbers_below, board_known}

-- an item of a list, or what is taken in its place
All-or_else : {X : Type 0} (P : X → Type 0) (xs : List X) (i : ℕ) (d : X) → All P xs → P d → P (get_or xs i d)
All-or_else P xs i d h e = by (cases_lt i (length xs))
  where
    by : (i < length xs) ⊎ (length xs ≤ i) → P (get_or xs i d)
    by (inl l) = All-get_or P xs i d l h
    by (inr l) = subst P (sym (get_or_past xs i d l)) e

one_is_measure : IsMeasure (pos 1)
one_is_measure = record { from = omega arith; to = omega arith }

pub rule_is : (b : BoardParts) → IsBoard b → (l : LayerId) (c : ClassId) → IsRule (rule_of b l c)
rule_is b h l c = All-or_else IsRule b.rules _ _ h.each_rule (record { half = one_is_measure; gap = one_is_measure })

pub gap_is : (b : BoardParts) → IsBoard b → (l : LayerId) (c d : ClassId) → IsMeasure (gap_of b l c d)
gap_is b h l c d = All-or_else IsMeasure b.gaps _ _ h.each_gap one_is_measure

pub pad_is : (b : BoardParts) → IsBoard b → (k : KindId) (c : ClassId) → IsMeasure (pad_of b k c)
pad_is b h k c = All-or_else IsMeasure b.pads _ _ h.each_pad one_is_measure

pub inner_is : (b : BoardParts) → IsBoard b → (k : KindId) (c : ClassId) → IsMeasure (inner_of b k c)
inner_is b h k c = All-or_else IsMeasure b.inners _ _ h.each_inner one_is_measure

-- each pad is a measure
pub pad_on_is : (b : BoardParts) → IsBoard b → (k : KindId) (c : ClassId) (l : LayerId) → IsMeasure (pad_on b k c l)
pad_on_is b h k c l =
    cond_both (l.0 == (kind_of b k).first.0) _ _ IsMeasure (λ e. pad_is b h k c)
    (λ e. cond_both (l.0 == (kind_of b k).last.0) _ _ IsMeasure (λ f. pad_is b h k c) (λ f. inner_is b h k c))

pub kind_is : (b : BoardParts) → IsBoard b → (k : KindId) → k.0 < length b.kinds → IsKind (length b.layers) (kind_of b k)
kind_is b h k l = All-get_or (IsKind (length b.layers)) b.kinds k.0 _ l h.each_kind

-- a wire between places lies near the origin, and so does a via at one
near_stretch : (u v h : ℤ) → IsCoordinate u → IsCoordinate v → IsMeasure h → IsNearZero (stretch u v h)
near_stretch u v h a b m = record { from = omega (arith, ints, clamps, m.to); to = omega (arith, ints, clamps, m.to) }

near_segment : (p q : Point) (h : ℤ) → IsPlace p → IsPlace q → IsMeasure h → IsNearOrigin (segment p q h)
near_segment p q h a b m = record { across = near_stretch p.x q.x h a.across b.across m; up = near_stretch p.y q.y h a.up b.up m }

near_square : (p : Point) (h : ℤ) → IsPlace p → IsMeasure h → IsNearOrigin (square p h)
near_square p h a m = subst IsNearOrigin (segment-square p h) (near_segment p p h a a m)

span_known : (b : BoardParts) (k : ViaKind) → IsKind (length b.layers) k → All (λ (l : LayerId). l.0 < length b.layers) (layers_from k.first k.last)
span_known b k h =
    All-map (λ (l : LayerId). l.0 < length b.layers) layer_at _ (numbers_below k.first.0 (k.last.0 + 1 - k.first.0) (length b.layers) (λ e. omega (arith, h.known, h.order)) (omega (arith, h.known, h.order)))

module _ (b : BoardParts) (h : IsBoard b) where
  leg_known : (n : NetId) → n.0 < length b.net_names → (from : Node) → IsCorner b from → (leg : Leg) → IsStep b from leg → All (IsKnown b) (leg_shapes b n from leg)
  leg_known n l from v (Wire to) s =
      let area = segment (place_of from) (place_of to) (rule_of b to.layer (class_of b n)).half in
      All-cons (IsKnown b) (net_shape n area to.layer) [] (record {
        layer = s.end.layer;
        owner = l;
        area = near_segment (place_of from) (place_of to) _ v.place s.end.place (rule_is b h to.layer (class_of b n)).half;
      }) (All-nil (IsKnown b))
  leg_known n l from v (Via k to) s =
      let p = place_of to in
      let near : (m : LayerId) → IsNearOrigin (square p (pad_on b k (class_of b n) m)) = λ m. near_square p _ s.end.place (pad_on_is b h k (class_of b n) m) in
      All-map (IsKnown b) (via_shape b n k p) _
      (All-weaker (λ (m : LayerId). m.0 < length b.layers) (λ m. IsKnown b (via_shape b n k p m)) (λ m e. record { layer = e; owner = l; area = near m }) _ (span_known b (kind_of b k) (kind_is b h k s.form.kind)))

  legs_known : (n : NetId) → n.0 < length b.net_names → (from : Node) → IsCorner b from → (legs : List Leg) → AreSteps b from legs → All (IsKnown b) (legs_shapes b n from legs)
  legs_known n l from v [] s = All-nil (IsKnown b)
  legs_known n l from v (leg ∷ legs) s =
      All-append (IsKnown b) (leg_shapes b n from leg) (legs_shapes b n (end_of leg) legs) (leg_known n l from v leg s.0) (legs_known n l (end_of leg) s.0.end legs s.1)

  pub conn_known : (n : NetId) → n.0 < length b.net_names → (c : Conn) → IsWellFormed b c → All (IsKnown b) (conn_shapes b n c)
  conn_known n l c w = legs_known n l c.start w.start c.legs w.steps

  made_known : (n : ℕ) (lists : List (List Conn)) → n + length lists ≡ length b.net_names → AreWellFormed b lists → All (IsKnown b) (made_shapes b n lists)
  made_known n [] e w = All-nil (IsKnown b)
  made_known n (conns ∷ lists) e w =
      let net : NetId = record { 0 = n } in
      let l : n < length b.net_names = omega arith in
      All-append (IsKnown b) (flat_map (conn_shapes b net) conns) (made_shapes b (n + 1) lists)
      (All-flat_map (IsKnown b) (conn_shapes b net) conns (All-weaker (IsWellFormed b) (λ c. All (IsKnown b) (conn_shapes b net c)) (conn_known net l) conns (All-head (All (IsWellFormed b)) conns lists w)))
      (made_known (n + 1) lists (omega arith) (All-tail (All (IsWellFormed b)) conns lists w))

  -- each shape of a state is known, where the connections are well formed
  pub state_known : (lists : List (List Conn)) → length lists ≡ length b.net_names → AreWellFormed b lists → All (IsKnown b) (state_shapes b lists)
  state_known lists e w = All-append (IsKnown b) (board_shapes b) (made_shapes b 0 lists) (board_known b h) (made_known 0 lists (omega arith) w)

-- where no nets are left, nothing is left to add
pub made_all : (b : BoardParts) (lists : List (List Conn)) (n : ℕ) (xs zs : List Shape) → length lists ≤ n → xs ++ made_shapes b n (drop n lists) ≡ zs → xs ≡ zs
made_all b lists n xs zs l e = sym (append-nil xs) ∙ ap (λ ls. xs ++ made_shapes b n ls) (sym (drop_all n lists l)) ∙ e
