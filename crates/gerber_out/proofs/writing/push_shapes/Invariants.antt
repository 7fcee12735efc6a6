use Rattle.std.proofs.Common.{◌≡◌, ◌++◌, take}
use Rattle.std.specs.List.{flat_map}
use Rattle.gerber_out.specs.Layers.{region_text, wanted}
use Rattle.gerber_out.proofs.writing.push_shapes.Given as goal

-- what was there, and the regions of each so far
abbrev pub invariant-loop-shape : goal.invariant-loop-shape
invariant-loop-shape l = l.text ≡ l.initial.text ++ flat_map region_text (wanted l.layer (take l.shape-index l.shapes))
