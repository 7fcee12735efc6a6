-- Rectangles of common points are one, and each has a corner.
use Rattle.std.proofs.Common.{◌≡◌}
use Rattle.geo_rect.specs.declared.shapes.Point.{Point}
use Rattle.geo_rect.specs.declared.shapes.Rect.{Rect}
use Rattle.geo_rect.specs.Plane.{columns, rows, HasPoint, IsMeet, ShareNoPoint}
use Rattle.geo_rect.proofs.Parts.{low_in, same_points}
use Rattle.route_law.specs.Moves.{IsMeetOfThree}

-- the lower left point of a rectangle
abbrev pub corner_of : Rect → Point
corner_of r = record { x = r.x0; y = r.y0 }

pub has_corner : (r : Rect) → HasPoint r (corner_of r)
has_corner r = record { across = low_in (columns r); up = low_in (rows r) }

pub meet_one : (a b r s : Rect) → IsMeet a b r → IsMeet a b s → r ≡ s
meet_one a b r s m n = same_points r s (λ p h. n.all p (m.first p h) (m.second p h)) (λ p h. m.all p (n.first p h) (n.second p h))

pub meet_not_apart : (a b r : Rect) → ShareNoPoint a b → IsMeet a b r → ⊥
meet_not_apart a b r n m = n (corner_of r) (m.first (corner_of r) (has_corner r)) (m.second (corner_of r) (has_corner r))

-- a point of what three share is a point of each
pub three_first : (a b c r : Rect) (p : Point) → IsMeetOfThree a b c r → HasPoint r p → HasPoint a p
three_first a b c r p m h = m.of_two.first p (m.of_all.first p h)

pub three_second : (a b c r : Rect) (p : Point) → IsMeetOfThree a b c r → HasPoint r p → HasPoint b p
three_second a b c r p m h = m.of_two.second p (m.of_all.first p h)

pub three_third : (a b c r : Rect) (p : Point) → IsMeetOfThree a b c r → HasPoint r p → HasPoint c p
three_third a b c r p m h = m.of_all.second p h

-- each point of all three is one of what they share
pub three_all : (a b c r : Rect) (p : Point) → IsMeetOfThree a b c r → HasPoint a p → HasPoint b p → HasPoint c p → HasPoint r p
three_all a b c r p m h k l = m.of_all.all p (m.of_two.all p h k) l

pub three_one : (a b c r s : Rect) → IsMeetOfThree a b c r → IsMeetOfThree a b c s → r ≡ s
three_one a b c r s m n =
    same_points r s
    (λ p h. three_all a b c s p n (three_first a b c r p m h) (three_second a b c r p m h) (three_third a b c r p m h))
    (λ p h. three_all a b c r p m (three_first a b c s p n h) (three_second a b c s p n h) (three_third a b c s p n h))
