-- The gaps that owners keep to one another.
use Rattle.std.specs.Prelude.{ℤ, pos, Option, Some, None}
use Rattle.geo_rect.specs.declared.ids.ClassId.{ClassId}
use Rattle.geo_rect.specs.declared.ids.LayerId.{LayerId}
use Rattle.geo_rect.specs.declared.ids.NetId.{NetId}
use Rattle.board_parts.specs.declared.parts.BoardParts.{BoardParts}
use Rattle.board_parts.specs.Lookup.{rule_of, gap_of, class_of}

-- the gap that a class keeps on a layer to what an owner has: to a net that of the two classes, to a
-- blockage that of the class's rule
abbrev pub gap_to : BoardParts → LayerId → ClassId → Option NetId → ℤ
gap_to b l c None = (rule_of b l c).gap
gap_to b l c (Some n) = gap_of b l c (class_of b n)

-- the gap between what two owners have on a layer (blockages keep none to one another)
abbrev pub gap_between : BoardParts → LayerId → Option NetId → Option NetId → ℤ
gap_between b l (Some m) o = gap_to b l (class_of b m) o
gap_between b l None (Some n) = gap_to b l (class_of b n) None
gap_between b l None None = pos 0
