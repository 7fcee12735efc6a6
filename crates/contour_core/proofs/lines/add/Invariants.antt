use Rattle.std.proofs.Common.{◌≡◌, ◌++◌, take}
use Rattle.contour_core.proofs.lines.add.Given as goal

-- the bytes so far were added, within the same room
abbrev pub invariant-loop-byte : goal.invariant-loop-byte
invariant-loop-byte l = record {
  items : l.line.items ≡ l.initial.line.items ++ take l.byte-index l.bytes;
  capacity : l.line.capacity ≡ l.initial.line.capacity;
}
