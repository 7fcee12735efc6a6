use Rattle.std.proofs.Common.{◌≡◌, take}
use Rattle.zone_fill.specs.Marks.{marked}
use Rattle.zone_fill.proofs.marks.marked_parts.Given as goal

-- the marked parts so far are listed
abbrev pub invariant-loop-number : goal.invariant-loop-number
invariant-loop-number l = l.boxes ≡ marked (take l.number l.marks) (take l.number l.parts)
