-- The rules between shapes: gap and outline.
use Rattle.std.specs.Prelude.{pos, ◌==◌, Bool, true, false, ◌&&◌, not, Option, Some, None, int_le}
use Rattle.geo_rect.specs.declared.ids.NetId.{NetId}
use Rattle.geo_rect.specs.declared.shapes.Rect.{Rect}
use Rattle.geo_rect.specs.Tests.{are_too_close}
use Rattle.board_parts.specs.declared.parts.BoardParts.{BoardParts}
use Rattle.board_model.specs.declared.shapes.Shape.{Shape}
use Rattle.board_parts.specs.Gaps.{gap_between}

-- whether both are blockages, or both belong to one net
abbrev pub is_same_owner : Option NetId → Option NetId → Bool
is_same_owner None None = true
is_same_owner None (Some n) = false
is_same_owner (Some m) None = false
is_same_owner (Some m) (Some n) = m.0 == n.0

-- whether the area lies in the board; it may touch the edge
abbrev pub keeps_outline : BoardParts → Rect → Bool
keeps_outline b r = (int_le (pos 0) r.x0 && int_le (pos 0) r.y0) && (int_le r.x1 b.width && int_le r.y1 b.height)

-- whether two shapes stand on one layer, belong to two owners, and are too close for the gap of these
abbrev pub breaks_gap : BoardParts → Shape → Shape → Bool
breaks_gap b s t =
    (s.layer.0 == t.layer.0 && not (is_same_owner s.owner t.owner)) && are_too_close s.area t.area (gap_between b s.layer s.owner t.owner)
