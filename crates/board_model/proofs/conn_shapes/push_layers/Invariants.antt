use Rattle.std.proofs.Common.{◌≡◌, ◌++◌, ◌-◌, ◌<◌, map}
use Rattle.std.specs.List.{range_with_len}
use Rattle.board_parts.specs.Lookup.{layer_at}
use Rattle.board_model.specs.Shapes.{net_shape}
use Rattle.board_model.proofs.conn_shapes.push_layers.Given as goal

-- the shape on the layers so far is added, of which there are none where the last is before the first
abbrev pub invariant-loop-layer : goal.invariant-loop-layer
invariant-loop-layer l = record {
  added : l.shapes ≡ l.initial.shapes ++ map (net_shape l.net l.area) (map layer_at (range_with_len l.fn.first.0 (l.layer - l.fn.first.0)));
  none : l.fn.last.0 < l.fn.first.0 → l.layer ≡ l.fn.first.0;
}
