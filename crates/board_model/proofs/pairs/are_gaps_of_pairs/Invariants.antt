use Rattle.std.proofs.Common.{◌≡◌, ◌<◌, length}
use Rattle.geo_rect.specs.declared.ids.ClassId.{ClassId}
use Rattle.geo_rect.specs.declared.ids.LayerId.{LayerId}
use Rattle.board_parts.specs.Lookup.{gap_of}
use Rattle.board_model.proofs.pairs.are_gaps_of_pairs.Given as goal

-- it is so on the layers so far
abbrev pub invariant-loop-layer : goal.invariant-loop-layer
invariant-loop-layer l =
    (m : LayerId) (c d : ClassId) → m.0 < l.layer → c.0 < length l.parts.classes → d.0 < length l.parts.classes → gap_of l.parts m c d ≡ gap_of l.parts m d c
