use Rattle.std.proofs.Common.{◌≡◌, ◌++◌, ◌-◌, ◌<◌, map}
use Rattle.std.specs.List.{range_with_len}
use Rattle.board_parts.specs.Lookup.{layer_at, kind_of}
use Rattle.board_model.specs.Shapes.{place_of, via_shape}
use Rattle.board_model.proofs.conn_shapes.push_pads.Given as goal

-- the pads on the layers so far are added
abbrev pub invariant-loop-layer : goal.invariant-loop-layer
invariant-loop-layer l = record {
  added : l.shapes ≡ l.initial.shapes ++ map (via_shape l.board.parts l.net l.kind (place_of l.to)) (map layer_at (range_with_len (kind_of l.board.parts l.kind).first.0 (l.layer - (kind_of l.board.parts l.kind).first.0)));
}
