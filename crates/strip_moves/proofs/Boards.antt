-- Rectangles on the largest board.
use Rattle.std.proofs.Common.{ℕ, ℤ, pos, ◌+◌, ◌^◌, ◌<◌, ◌≤◌, ◌≤ℤ◌, arith}
use Rattle.std.proofs.lemmas.Int.{ints}
use Rattle.geo_rect.specs.declared.ids.NetId.{NetId}
use Rattle.geo_rect.specs.declared.shapes.Point.{Point}
use Rattle.geo_rect.specs.declared.shapes.Rect.{Rect}
use Rattle.geo_rect.specs.Distance.{IsDistance}
use Rattle.geo_rect.specs.Line.{between}
use Rattle.geo_rect.specs.Plane.{columns, rows, HasPoint, LiesIn}
use Rattle.geo_rect.proofs.Parts.{low_in, lies_in_from}
use Rattle.board_parts.specs.declared.parts.BoardParts.{BoardParts}
use Rattle.board_parts.specs.Rules.{IsBoard, IsOnBoard}
use Rattle.route_law.specs.declared.certs.Entry.{Entry}
use Rattle.route_law.specs.declared.certs.Origin.{Origin}
use Rattle.strip_moves.specs.Departures.{IsOnLargestBoard, IsOpen}
use Rattle.strip_moves.specs.Grounds.{board_area}

abbrev pub first : Rect → Point
first r = record { x = r.x0; y = r.y0 }

pub has_first : (r : Rect) → HasPoint r (first r)
has_first r = record { across = low_in (columns r); up = low_in (rows r) }

near : (x y : ℤ) → pos 0 ≤ℤ x → x ≤ℤ pos (2 ^ 23) → pos 0 ≤ℤ y → y ≤ℤ pos (2 ^ 23) → between x y ≤ 2 ^ 23
near x y a b c d = omega (arith, ints)

-- the distance of two rectangles of a board is short
pub short_way : (a b : Rect) (n : ℕ) → IsOnLargestBoard a → IsOnLargestBoard b → IsDistance a b n → n ≤ 2 ^ 24
short_way a b n h k d =
    let across = near a.x0 b.x0 h.left (omega (arith, ints, h.right, a.x_ordered)) k.left (omega (arith, ints, k.right, b.x_ordered)) in
    let up = near a.y0 b.y0 h.below (omega (arith, ints, h.above, a.y_ordered)) k.below (omega (arith, ints, k.above, b.y_ordered)) in
    omega (arith, d.least (first a) (first b) (has_first a) (has_first b), across, up)

-- what lies in a rectangle of the board is on the board
pub part_on_board : (a b : Rect) → LiesIn a b → IsOnLargestBoard b → IsOnLargestBoard a
part_on_board a b l h = record {
  left = omega (arith, ints, h.left, l.across.from);
  below = omega (arith, ints, h.below, l.up.from);
  right = omega (arith, ints, h.right, l.across.to);
  above = omega (arith, ints, h.above, l.up.to);
}

pub points_on_board : (a b : Rect) → ((p : Point) → HasPoint a p → HasPoint b p) → IsOnLargestBoard b → IsOnLargestBoard a
points_on_board a b f h = part_on_board a b (lies_in_from a b f) h

pub area_on_board : (b : BoardParts) → IsBoard b → IsOnLargestBoard (board_area b)
area_on_board b h = record {
  left = omega (arith, ints);
  below = omega (arith, ints);
  right = omega (arith, ints, h.width.from, h.width.to);
  above = omega (arith, ints, h.height.from, h.height.to);
}

-- an area on the board lies in the points of the board
pub on_board_inside : (b : BoardParts) (r : Rect) → IsOnBoard b.width b.height r → LiesIn r (board_area b)
on_board_inside b r h = record {
  across = record { from = omega (arith, ints, h.left); to = omega (arith, ints, h.right) };
  up = record { from = omega (arith, ints, h.below); to = omega (arith, ints, h.above) };
}

-- an entry in a strip of the board, left for strips of its layer
pub open_on_board : (b : BoardParts) → IsBoard b → (o : Origin) (e : Entry) → LiesIn e.strip (board_area b) → LiesIn e.front e.strip → e.cost + 2 ^ 26 < 2 ^ 128 → (net : NetId) → IsOpen (record { net = net; from = e; origin = o; layer = e.layer; charge = 0 })
open_on_board b board o e inside holds cost net =
    let strip = part_on_board e.strip (board_area b) inside (area_on_board b board) in
    record {
      strip = strip;
      front = part_on_board e.front e.strip holds strip;
      cost = cost;
      charge = omega arith;
    }
