-- What a wire of a net keeps at a point.
use Rattle.std.specs.Prelude.{◌≡◌, ◌≢◌, pos, true, List, Contains, Some}
use Rattle.geo_rect.specs.declared.ids.LayerId.{LayerId}
use Rattle.geo_rect.specs.declared.ids.NetId.{NetId}
use Rattle.geo_rect.specs.declared.shapes.Point.{Point}
use Rattle.geo_rect.specs.declared.shapes.Rect.{Rect}
use Rattle.geo_rect.specs.Plane.{IsTooClose, square}
use Rattle.board_parts.specs.declared.parts.BoardParts.{BoardParts}
use Rattle.board_parts.specs.declared.parts.Keepout.{Keepout}
use Rattle.board_parts.specs.Gaps.{gap_to}
use Rattle.board_parts.specs.Lookup.{class_of, rule_of}
use Rattle.board_parts.specs.Rules.{IsOnBoard}
use Rattle.board_model.specs.declared.shapes.Shape.{Shape}

-- the square round the point, of the half width of the net's class on the layer
abbrev pub wire_square : BoardParts → NetId → LayerId → Point → Rect
wire_square b n l p = square p (rule_of b l (class_of b n)).half

-- the square round the point lies in the board, keeps its gap to each shape on the layer that is not the net's,
-- and has no point in common with a keep-out for wires on the layer
pub record KeepsRules (b : BoardParts) (shapes : List Shape) (n : NetId) (l : LayerId) (p : Point) : Type 0 where
  pub outline : IsOnBoard b.width b.height (wire_square b n l p)
  pub gaps : (s : Shape) → Contains shapes s → s.layer ≡ l → s.owner ≢ Some n → ¬ IsTooClose (wire_square b n l p) s.area (gap_to b l (class_of b n) s.owner)
  pub keepouts : (k : Keepout) → Contains b.keepouts k → k.layer ≡ l → k.wires ≡ true → ¬ IsTooClose (wire_square b n l p) k.area (pos 1)
