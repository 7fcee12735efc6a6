use Rattle.std.proofs.Common.{◌≡◌, ◌++◌, take}
use Rattle.std.specs.List.{flat_map}
use Rattle.zone_fill.specs.Texts.{box_line}
use Rattle.zone_fill.proofs.texts.push_boxes.Given as goal

-- what was there, and the line of each box so far
abbrev pub invariant-loop-area : goal.invariant-loop-area
invariant-loop-area l = l.text ≡ l.initial.text ++ flat_map box_line (take l.area-index l.boxes)
