use Rattle.std.proofs.Common.{◌≡◌, ◌<◌, length}
use Rattle.geo_rect.specs.declared.ids.ClassId.{ClassId}
use Rattle.board_parts.specs.Lookup.{gap_of}
use Rattle.board_model.proofs.pairs.are_pairs_on.Given as goal

-- it is so for the first classes so far
abbrev pub invariant-loop-c : goal.invariant-loop-c
invariant-loop-c l =
    (c d : ClassId) → c.0 < l.c → d.0 < length l.parts.classes → gap_of l.parts (record { 0 = l.layer }) c d ≡ gap_of l.parts (record { 0 = l.layer }) d c
