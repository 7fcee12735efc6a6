use Rattle.std.proofs.Common.{◌≡◌, ◌++◌, ◌-◌, ◌<◌, map}
use Rattle.std.specs.List.{range_with_len}
use Rattle.board_parts.specs.Lookup.{layer_at}
use Rattle.board_model.specs.Boxes.{spot_on}
use Rattle.net_trace.proofs.copper.push_layers.Given as goal

-- the area on the layers so far is added, of which there are none where the last is before the first
abbrev pub invariant-loop-layer : goal.invariant-loop-layer
invariant-loop-layer l = record {
  added : l.spots ≡ l.initial.spots ++ map (spot_on l.area) (map layer_at (range_with_len l.fn.first.0 (l.layer - l.fn.first.0)));
  none : l.fn.last.0 < l.fn.first.0 → l.layer ≡ l.fn.first.0;
}
