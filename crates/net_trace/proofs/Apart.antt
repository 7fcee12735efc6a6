-- Where the rules are kept and no pins of different nets touch, what is joined is of one net.
use Rattle.std.proofs.Common.{ℕ, ℤ, pos, ◌≡◌, ◌<◌, ◌≤ℤ◌, ◌⊎◌, inl, inr, List, [], ◌∷◌, length, map, get_or, Some, refl, ap, sym, ◌∙◌, subst, arith}
use Rattle.std.specs.Prelude.{Contains, slice_get}
use Rattle.std.proofs.lemmas.Bool.{cases_eq}
use Rattle.std.proofs.lemmas.Int.{ints}
use Rattle.std.proofs.lemmas.Option.{same_Some, slice_get_within, slice_get-get_or, get_or_from_slice_get}
use Rattle.plane_core.proofs.Members.{has_head}
use Rattle.geo_rect.specs.declared.ids.NetId.{NetId}
use Rattle.geo_rect.specs.declared.shapes.Interval.{Interval}
use Rattle.geo_rect.specs.declared.shapes.Point.{Point}
use Rattle.geo_rect.specs.declared.shapes.Rect.{Rect}
use Rattle.geo_rect.specs.Axis.{HasNumber, IsNear}
use Rattle.geo_rect.specs.Plane.{HasPoint, IsTooClose}
use Rattle.board_model.specs.declared.made.Conn.{Conn}
use Rattle.board_model.specs.declared.shapes.Shape.{Shape}
use Rattle.board_parts.specs.declared.parts.BoardParts.{BoardParts}
use Rattle.board_parts.specs.Lookup.{class_of}
use Rattle.board_parts.specs.Rules.{IsBoard}
use Rattle.board_model.specs.Shapes.{state_shapes}
use Rattle.board_model.proofs.MadeShapes.{gap_is}
use Rattle.route_law.specs.Kept.{KeepsRules, IsState}
use Rattle.net_trace.specs.declared.copper.Piece.{Piece}
use Rattle.net_trace.specs.declared.traced.Short.{Short}
use Rattle.net_trace.specs.declared.traced.Traced.{Traced}
use Rattle.net_trace.specs.Joined.{KeepPinsApart}
use Rattle.net_trace.specs.Pieces.{pin_piece, made_pieces, pieces_of}
use Rattle.net_trace.specs.Report.{IsReport, IsShort, HasPiece}
use Rattle.net_trace.specs.Touching.{Touch, IsChain, IsLeastJoined}
use Rattle.net_trace.proofs.Grouped.{net_same}
use Rattle.net_trace.proofs.Joining.{Touch-flip, joined_to_itself}
use Rattle.net_trace.proofs.Members.{Contains-map_cases}
use Rattle.net_trace.proofs.PieceShapes.{shape_of, piece_cases, made_piece_has, piece_has}

-- areas that share a point are too close for a gap of 1 or more
common_near : (i j : Interval) (x g : ℤ) → pos 1 ≤ℤ g → HasNumber i x → HasNumber j x → IsNear i j g
common_near i j x g l a b = record { after = omega (arith, ints); before = omega (arith, ints) }

common_close : (a b : Rect) (p : Point) (g : ℤ) → pos 1 ≤ℤ g → HasPoint a p → HasPoint b p → IsTooClose a b g
common_close a b p g l h k = record { across = common_near _ _ p.x g l h.across k.across; up = common_near _ _ p.y g l h.up k.up }

-- what a list has at a place it contains
at_place : {X : Type 0} (xs : List X) (i : ℕ) (x : X) → slice_get xs i ≡ Some x → Contains xs x
at_place xs i x e = (i, slice_get_within xs i x e, get_or_from_slice_get xs i x x e)

module _ (b : BoardParts) (lists : List (List Conn)) (board : IsBoard b) (state : IsState b lists) (apart : KeepPinsApart b) where
  abbrev pieces : List Piece
  pieces = pieces_of b lists

  -- what is made touches no piece of another net
  made_alone : (p q : Piece) → Contains (made_pieces b 0 lists) p → Contains pieces q → Touch p q → (p.net ≡ q.net → ⊥) → ⊥
  made_alone p q c d t n =
      let s : Shape = shape_of p t.one in
      let u : Shape = shape_of q t.other in
      let k : KeepsRules b (state_shapes b lists) s = state.kept.rules s (made_piece_has b lists p c t.one t.one_listed) in
      k.gaps u (piece_has b lists q d t.other t.other_listed) (sym t.share.same_layer) (λ e. n (sym (same_Some q.net p.net e)))
      (common_close t.one.area t.other.area t.share.point _ (gap_is b board t.one.layer (class_of b p.net) (class_of b q.net)).from t.share.of_first t.share.of_second)

  pins_alone : (p q : Piece) → Contains (map pin_piece b.pins) p → Contains (map pin_piece b.pins) q → Touch p q → (p.net ≡ q.net → ⊥) → ⊥
  pins_alone p q c d t n =
      let x = Contains-map_cases pin_piece b.pins p c in
      let y = Contains-map_cases pin_piece b.pins q d in
      let t' : Touch (pin_piece x.0) (pin_piece y.0) = subst (λ z. Touch z (pin_piece y.0)) (sym x.2) (subst (Touch p) (sym y.2) t) in
      apart x.0 y.0 x.1 y.1 (λ e. n (sym (ap (λ (z : Piece). z.net) x.2) ∙ e ∙ ap (λ (z : Piece). z.net) y.2)) t'

  none_of_others : (p q : Piece) → Contains pieces p → Contains pieces q → Touch p q → (p.net ≡ q.net → ⊥) → ⊥
  none_of_others p q c d t n = by (piece_cases b lists p c) (piece_cases b lists q d)
    where
      by : Contains (map pin_piece b.pins) p ⊎ Contains (made_pieces b 0 lists) p → Contains (map pin_piece b.pins) q ⊎ Contains (made_pieces b 0 lists) q → ⊥
      by (inl x) (inl y) = pins_alone p q x y t n
      by (inl x) (inr y) = made_alone q p y c (Touch-flip p q t) (λ e. n (sym e))
      by (inr x) y = made_alone p q x d t n

  touch_one_net : (p q : Piece) → Contains pieces p → Contains pieces q → Touch p q → p.net ≡ q.net
  touch_one_net p q c d t = by (cases_eq p.net.0 q.net.0)
    where
      by : (p.net.0 ≡ q.net.0) ⊎ (p.net.0 ≡ q.net.0 → ⊥) → p.net ≡ q.net
      by (inl e) = net_same p.net q.net e
      by (inr n) = absurd (none_of_others p q c d t (λ e. n (ap (λ (z : NetId). z.0) e)))

  chain_one_net : (i : ℕ) (ks : List ℕ) (j : ℕ) (p q : Piece) → IsChain pieces i ks j → slice_get pieces i ≡ Some p → slice_get pieces j ≡ Some q → p.net ≡ q.net
  chain_one_net i [] j p q c e f =
      ap (λ (z : Piece). z.net) (same_Some p q (sym e ∙ ap (slice_get pieces) c ∙ f))
  chain_one_net i (k ∷ ks) j p q c e f =
      let t = c.0 in
      let first : p ≡ t.first = same_Some p t.first (sym e ∙ t.is_first) in
      let next : t.first.net ≡ t.second.net = touch_one_net t.first t.second (at_place pieces i t.first t.is_first) (at_place pieces k t.second t.is_second) t.touch in
      ap (λ (z : Piece). z.net) first ∙ next ∙ chain_one_net k ks j t.second q c.1 t.is_second f

  -- a piece of a net, and the first of its group
  group_net : (count f : ℕ) (n : NetId) (r : Piece) → HasPiece count pieces (IsLeastJoined pieces) n f → slice_get pieces f ≡ Some r → r.net ≡ n
  group_net count f n r h e =
      let j = h.in_group.joined in
      sym (chain_one_net h.number j.numbers f h.of_net.piece r j.chain h.of_net.here e) ∙ h.of_net.net

  no_short : (s : Short) → IsShort pieces (IsLeastJoined pieces) s → ⊥
  no_short s h =
      let i = h.of_a.number in
      let first : Piece = h.of_a.of_net.piece in
      let known : i < length pieces = h.of_a.in_group.joined.known in
      let within : h.group < length pieces = omega (arith, known, h.of_a.in_group.least i (joined_to_itself pieces i known)) in
      let e = slice_get-get_or pieces h.group first within in
      let r : Piece = get_or pieces h.group first in
      let same : s.a ≡ s.b = sym (group_net (length pieces) h.group s.a r h.of_a e) ∙ group_net (length pieces) h.group s.b r h.of_b e in
      let numbers : s.a.0 ≡ s.b.0 = ap (λ (n : NetId). n.0) same in
      omega (arith, numbers, h.earlier)

  pub no_shorts : (traced : Traced) → IsReport b lists traced → traced.shorts ≡ []
  no_shorts traced h = none traced.shorts (λ s c. no_short s (h.shorts.each s c))
    where
      none : (xs : List Short) → ((s : Short) → Contains xs s → ⊥) → xs ≡ []
      none [] k = refl
      none (x ∷ xs) k = absurd (k x (has_head x xs))
