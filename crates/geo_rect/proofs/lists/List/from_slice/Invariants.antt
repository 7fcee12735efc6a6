use Rattle.std.proofs.Common.{◌≡◌, take}
use Rattle.geo_rect.proofs.lists.List.from_slice.Given as goal

-- the list holds the items so far
abbrev pub invariant-loop-item : goal.invariant-loop-item
invariant-loop-item g l = l.list ≡ take l.item-index l.items
