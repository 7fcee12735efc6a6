use Rattle.std.proofs.Common.{◌≡◌, ◌<◌}
use Rattle.geo_rect.specs.declared.ids.ClassId.{ClassId}
use Rattle.board_parts.specs.Lookup.{gap_of}
use Rattle.board_model.proofs.pairs.are_pairs_with.Given as goal

-- it is so for the second classes so far
abbrev pub invariant-loop-d : goal.invariant-loop-d
invariant-loop-d l =
    (d : ClassId) → d.0 < l.d → gap_of l.parts (record { 0 = l.layer }) (record { 0 = l.c }) d ≡ gap_of l.parts (record { 0 = l.layer }) d (record { 0 = l.c })
