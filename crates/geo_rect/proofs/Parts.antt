-- Rectangles by their points.
use Rattle.std.proofs.Common.{ℤ, ◌≡◌, ◌↔◌, arith}
use Rattle.std.proofs.lemmas.Int.{ints}
use Rattle.geo_rect.specs.declared.shapes.Interval.{Interval}
use Rattle.geo_rect.specs.declared.shapes.Point.{Point}
use Rattle.geo_rect.specs.declared.shapes.Rect.{Rect}
use Rattle.geo_rect.specs.Axis.{HasNumber, LiesWithin, IsSmall}
use Rattle.geo_rect.specs.Plane.{HasPoint, LiesIn, IsBounded, columns, rows}
use Rattle.geo_rect.proofs.Same.{same_interval, same_rect}

pub low_in : (i : Interval) → HasNumber i i.low
low_in i = record { from = omega (arith, ints); to = i.ordered }

pub high_in : (i : Interval) → HasNumber i i.high
high_in i = record { from = i.ordered; to = omega (arith, ints) }

abbrev first : Rect → Point
first r = record { x = r.x0; y = r.y0 }

abbrev last : Rect → Point
last r = record { x = r.x1; y = r.y1 }

has_first : (r : Rect) → HasPoint r (first r)
has_first r = record { across = low_in (columns r); up = low_in (rows r) }

has_last : (r : Rect) → HasPoint r (last r)
has_last r = record { across = high_in (columns r); up = high_in (rows r) }

pub lies_in_from : (a b : Rect) → ((p : Point) → HasPoint a p → HasPoint b p) → LiesIn a b
lies_in_from a b f =
    let l = f (first a) (has_first a) in
    let h = f (last a) (has_last a) in
    record { across = record { from = l.across.from; to = h.across.to }; up = record { from = l.up.from; to = h.up.to } }

along : (i j : Interval) (v : ℤ) → LiesWithin i j → HasNumber i v → HasNumber j v
along i j v w h = record { from = omega (arith, ints); to = omega (arith, ints) }

pub lies_in_points : (a b : Rect) → LiesIn a b ↔ ((p : Point) → HasPoint a p → HasPoint b p)
lies_in_points a b = (
  λ l p h. record { across = along (columns a) (columns b) p.x l.across h.across; up = along (rows a) (rows b) p.y l.up h.up },
  lies_in_from a b,
)

small_within : (i j : Interval) → LiesWithin i j → IsSmall j → IsSmall i
small_within i j w s = record { from = omega (arith, ints); to = omega (arith, ints) }

pub bounded_within : (a b : Rect) → LiesIn a b → IsBounded b → IsBounded a
bounded_within a b l s = record { across = small_within (columns a) (columns b) l.across s.across; up = small_within (rows a) (rows b) l.up s.up }

same_ends : (i j : Interval) → LiesWithin i j → LiesWithin j i → i ≡ j
same_ends i j w x = same_interval i j (omega (arith, ints)) (omega (arith, ints))

-- rectangles with the same points are the same
pub same_points : (a b : Rect) → ((p : Point) → HasPoint a p → HasPoint b p) → ((p : Point) → HasPoint b p → HasPoint a p) → a ≡ b
same_points a b f g =
    let l = lies_in_from a b f in
    let m = lies_in_from b a g in
    same_rect a b (same_ends (columns a) (columns b) l.across m.across) (same_ends (rows a) (rows b) l.up m.up)
