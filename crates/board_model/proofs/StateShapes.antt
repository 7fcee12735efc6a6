-- That each shape of a board is known, and that a state without connections has no more shapes.
use Rattle.std.proofs.Common.{◌≡◌, ℕ, ℤ, ◌+◌, ◌-◌, ◌<◌, ◌≤◌, List, [], ◌∷◌, ◌++◌, length, map, All, ap, ◌∙◌, sym, subst, refl, arith, append-nil}
use Rattle.std.specs.List.{range_with_len, flat_map}
use Rattle.std.proofs.lemmas.Int.{ints}
use Rattle.std.proofs.lemmas.List.Elements.{All-nil, All-head, All-tail, All-append, All-map, All-weaker}
use Rattle.std.proofs.lemmas.List.FromFn.{length-range_with_len, get_or-range_with_len}
use Rattle.geo_rect.specs.declared.ids.LayerId.{LayerId}
use Rattle.geo_rect.specs.declared.shapes.Rect.{Rect}
use Rattle.board_parts.specs.declared.parts.BoardParts.{BoardParts}
use Rattle.board_parts.specs.declared.parts.Block.{Block}
use Rattle.board_parts.specs.declared.parts.Pin.{Pin}
use Rattle.board_model.specs.declared.made.Conn.{Conn}
use Rattle.board_model.specs.Known.{IsNearOrigin, IsKnown}
use Rattle.board_parts.specs.Lookup.{layer_at, layers_from}
use Rattle.board_parts.specs.Rules.{IsBoard, IsSide, IsOnBoard, IsBlock, IsPin}
use Rattle.board_model.specs.Shapes.{block_shape, net_shape, pin_shapes, board_shapes, made_shapes, state_shapes}

pub All-flat_map : {X A : Type 0} (P : A → Type 0) (f : X → List A) (xs : List X) → All (λ x. All P (f x)) xs → All P (flat_map f xs)
All-flat_map P f [] h = All-nil P
All-flat_map P f (x ∷ xs) h =
    All-append P (f x) (flat_map f xs) (All-head (λ y. All P (f y)) x xs h) (All-flat_map P f xs (All-tail (λ y. All P (f y)) x xs h))

pub numbers_below : (a n top : ℕ) → (n ≡ 0 → a ≤ top) → a + n ≤ top → All (λ m. m < top) (range_with_len a n)
numbers_below a n top z h k d l =
    let i : k < n = omega (arith, length-range_with_len a n) in
    omega (arith, get_or-range_with_len a n k d i)

layers_known : (b : BoardParts) (p : Pin) → IsPin b p → All (λ (l : LayerId). l.0 < length b.layers) (layers_from p.first p.last)
layers_known b p h =
    All-map (λ (l : LayerId). l.0 < length b.layers) layer_at _ (numbers_below p.first.0 (p.last.0 + 1 - p.first.0) (length b.layers) (λ e. omega (arith, h.layer, h.order)) (omega (arith, h.layer, h.order)))

-- an area of a board lies near the origin
near_on : (width height : ℤ) (r : Rect) → IsSide width → IsSide height → IsOnBoard width height r → IsNearOrigin r
near_on width height r w h o = record {
  across = record { from = omega (arith, ints, o.left); to = omega (arith, ints, o.right, w.to) };
  up = record { from = omega (arith, ints, o.below); to = omega (arith, ints, o.above, h.to) };
}

pin_known : (b : BoardParts) → IsSide b.width → IsSide b.height → (p : Pin) → IsPin b p → All (IsKnown b) (pin_shapes p)
pin_known b w u p h =
    All-map (IsKnown b) (net_shape p.net p.area) _
    (All-weaker (λ (l : LayerId). l.0 < length b.layers) (λ l. IsKnown b (net_shape p.net p.area l)) (λ l e. record { layer = e; owner = h.net; area = near_on b.width b.height p.area w u h.area }) _ (layers_known b p h))

block_known : (b : BoardParts) → IsSide b.width → IsSide b.height → (k : Block) → IsBlock b k → IsKnown b (block_shape k)
block_known b w u k h = record { layer = h.layer; owner = tt; area = near_on b.width b.height k.area w u h.area }

pub board_known : (b : BoardParts) → IsBoard b → All (IsKnown b) (board_shapes b)
board_known b h =
    All-append (IsKnown b) (map block_shape b.blocks) (flat_map pin_shapes b.pins)
    (All-map (IsKnown b) block_shape b.blocks (All-weaker (IsBlock b) (λ k. IsKnown b (block_shape k)) (block_known b h.width h.height) b.blocks h.each_block))
    (All-flat_map (IsKnown b) pin_shapes b.pins (All-weaker (IsPin b) (λ p. All (IsKnown b) (pin_shapes p)) (pin_known b h.width h.height) b.pins h.each_pin))

pub none_made : (b : BoardParts) (n : ℕ) (lists : List (List Conn)) → All (λ conns. conns ≡ []) lists → made_shapes b n lists ≡ []
none_made b n [] h = refl
none_made b n (conns ∷ lists) h =
    let P : List Conn → Type 0 = λ cs. made_shapes b n (cs ∷ lists) ≡ [] in
    subst P (sym (All-head (λ cs. cs ≡ []) conns lists h)) (none_made b (n + 1) lists (All-tail (λ cs. cs ≡ []) conns lists h))

pub only_the_board : (b : BoardParts) (lists : List (List Conn)) → All (λ conns. conns ≡ []) lists → state_shapes b lists ≡ board_shapes b
only_the_board b lists h = ap (λ ss. board_shapes b ++ ss) (none_made b 0 lists h) ∙ append-nil (board_shapes b)
