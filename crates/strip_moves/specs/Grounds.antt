-- The ground on which a net walks, as the planes of a state give it.
use Rattle.std.specs.Prelude.{ℕ, ℤ, pos, ◌<◌, List, [], length, Option, Some, None, slice_get, slice_index_or}
use Rattle.std.specs.Int.RustNames.{unsigned_abs}
use Rattle.geo_rect.specs.declared.ids.ClassId.{ClassId}
use Rattle.geo_rect.specs.declared.ids.KindId.{KindId}
use Rattle.geo_rect.specs.declared.ids.LayerId.{LayerId}
use Rattle.geo_rect.specs.declared.ids.NetId.{NetId}
use Rattle.geo_rect.specs.declared.ids.Node.{Node}
use Rattle.geo_rect.specs.declared.shapes.Interval.{Interval}
use Rattle.geo_rect.specs.declared.shapes.Rect.{Rect}
use Rattle.geo_rect.specs.Plane.{rect_of, HasPoint}
use Rattle.board_parts.specs.declared.parts.BoardParts.{BoardParts}
use Rattle.board_parts.specs.Lookup.{class_of, kind_of}
use Rattle.board_model.specs.Shapes.{place_of}
use Rattle.plane_core.specs.declared.strips.Strip.{Strip}
use Rattle.plane_set.specs.Drawings.{Drawing}
use Rattle.plane_set.specs.Standing.{PlaneTable}
use Rattle.route_law.specs.Ground.{Ground}
use Rattle.strip_moves.specs.Order.{upto-ordered}

-- the numbers from 0 to n, for an n that is not negative
abbrev pub upto : ℤ → Interval
upto n = record { low = pos 0; high = pos (unsigned_abs n); ordered = upto-ordered n }

-- the points of the board: from 0 to its width and from 0 to its height
abbrev pub board_area : BoardParts → Rect
board_area b = rect_of (upto b.width) (upto b.height)

-- the node is on a layer of the board, and its place is a point of the board
pub record IsBoardNode (b : BoardParts) (v : Node) : Type 0 where
  pub layer : v.layer.0 < length b.layers
  pub place : HasPoint (board_area b) (place_of v)

-- the strips of a plane, none where there is no plane
abbrev pub strips_in : Option Drawing → List Strip
strips_in None = []
strips_in (Some d) = d.strips

-- the strips of the plane of class c in the row of number n
abbrev pub strips_at : List (List Drawing) → ℕ → ClassId → List Strip
strips_at rows n c = strips_in (slice_get (slice_index_or rows n []) c.0)

-- where the net walks: the points of the board, the planes of its class, and the board's kinds of vias
abbrev pub ground_of : BoardParts → PlaneTable → NetId → Ground
ground_of b set n = record {
  region = board_area b;
  layers = length b.layers;
  wire_strips = λ (l : LayerId). strips_at set.wires l.0 (class_of b n);
  kinds = length b.kinds;
  kind = kind_of b;
  via_strips = λ (k : KindId). strips_at set.vias k.0 (class_of b n);
  net = n;
}
