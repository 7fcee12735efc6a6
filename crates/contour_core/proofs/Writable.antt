-- The shapes of a state lie on the board, so their coordinates can be written.
use Rattle.std.proofs.Common.{ℤ, pos, List, map, All, Contains, arith}
use Rattle.std.specs.List.{flat_map}
use Rattle.std.proofs.lemmas.Int.{ints}
use Rattle.std.proofs.lemmas.List.Elements.{All-append, All-contains_itself, All-map, All-weaker}
use Rattle.geo_rect.specs.declared.ids.LayerId.{LayerId}
use Rattle.geo_rect.specs.declared.shapes.Rect.{Rect}
use Rattle.board_model.specs.declared.made.Conn.{Conn}
use Rattle.board_model.specs.declared.shapes.Shape.{Shape}
use Rattle.board_model.specs.Shapes.{block_shape, board_shapes, made_shapes, net_shape, pin_shapes, state_shapes}
use Rattle.board_model.proofs.StateShapes.{All-flat_map}
use Rattle.board_parts.specs.Lookup.{layers_from}
use Rattle.board_parts.specs.Rules.{IsBlock, IsBoard, IsOnBoard, IsPin, IsSide}
use Rattle.board_parts.specs.declared.parts.BoardParts.{BoardParts}
use Rattle.board_parts.specs.declared.parts.Pin.{Pin}
use Rattle.gerber_out.specs.Layers.{IsWritable}
use Rattle.route_law.specs.Kept.{IsState}

module _ (b : BoardParts) where
  abbrev Lies : Shape → Type 0
  Lies s = IsOnBoard b.width b.height s.area

  layers-lie : (p : Pin) → IsOnBoard b.width b.height p.area → (ls : List LayerId) → All Lies (map (net_shape p.net p.area) ls)
  layers-lie p h ls = All-map Lies (net_shape p.net p.area) ls (λ k d lt. h)

  board-lies : IsBoard b → All Lies (board_shapes b)
  board-lies h =
      All-append Lies (map block_shape b.blocks) (flat_map pin_shapes b.pins)
      (All-map Lies block_shape b.blocks (All-weaker (IsBlock b) (λ k. Lies (block_shape k)) (λ k is. is.area) b.blocks h.each_block))
      (All-flat_map Lies pin_shapes b.pins (All-weaker (IsPin b) (λ p. All Lies (pin_shapes p)) (λ p is. layers-lie p is.area (layers_from p.first p.last)) b.pins h.each_pin))

  state-lies : (lists : List (List Conn)) → IsBoard b → IsState b lists → All Lies (state_shapes b lists)
  state-lies lists board state =
      let made = made_shapes b 0 lists in
      All-append Lies (board_shapes b) made (board-lies board)
      (All-weaker (Contains made) Lies (λ s at. (state.kept.rules s at).outline) made (All-contains_itself made))

  lies-low : (r : Rect) → IsSide b.width → IsSide b.height → IsOnBoard b.width b.height r → IsOnBoard (pos 9999999) (pos 9999999) r
  lies-low r w h on = record {
    left = on.left;
    below = on.below;
    right = omega (arith, ints, on.right, w.to);
    above = omega (arith, ints, on.above, h.to);
  }

  -- the shapes of a state can be written
  pub all-writable : (lists : List (List Conn)) (l : LayerId) → IsBoard b → IsState b lists → All (IsWritable l) (state_shapes b lists)
  all-writable lists l board state =
      All-weaker Lies (IsWritable l) (λ s on wanted. lies-low s.area board.width board.height on) (state_shapes b lists) (state-lies lists board state)
