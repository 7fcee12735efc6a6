-- A bound of all gaps of a board.
use Rattle.std.specs.Prelude.{ℤ, ◌≤ℤ◌, Option}
use Rattle.geo_rect.specs.declared.ids.LayerId.{LayerId}
use Rattle.geo_rect.specs.declared.ids.NetId.{NetId}
use Rattle.board_parts.specs.declared.parts.BoardParts.{BoardParts}
use Rattle.board_parts.specs.Gaps.{gap_between}

-- no gap between two owners on a layer is greater
abbrev pub NoGapIsGreater : BoardParts → ℤ → Type 0
NoGapIsGreater b most = (l : LayerId) (x y : Option NetId) → gap_between b l x y ≤ℤ most
