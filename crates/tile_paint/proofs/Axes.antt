-- One axis: two intervals that follow one another and are whole together.
use Rattle.std.proofs.Common.{ℤ, ◌⊎◌, inl, inr, ◌≤ℤ◌, ◌<ℤ◌, arith}
use Rattle.std.proofs.lemmas.Int.{ints, by_lt_z}
use Rattle.geo_rect.specs.declared.shapes.Interval.{Interval}
use Rattle.geo_rect.specs.declared.shapes.Point.{Point}
use Rattle.geo_rect.specs.declared.shapes.Rect.{Rect}
use Rattle.geo_rect.specs.Axis.{HasNumber, LiesWithin}
use Rattle.geo_rect.specs.Plane.{columns, rows, HasPoint, LiesIn}
use Rattle.plane_core.specs.LocalForm.{HaveSameColumns}
use Rattle.stitch_walk.specs.Pieces.{IsSplit, AreStacked, AreInLine, HaveSameRows}

-- the point of column x and row y
abbrev pub spot : ℤ → ℤ → Point
spot x y = record { x = x; y = y }

pub at_least : (a b : ℤ) → (a <ℤ b → ⊥) → b ≤ℤ a
at_least a b not_less = by_lt_z a b (λ less. absurd (not_less less)) (λ more. more)

pub less_from : (a b : ℤ) → (a ≤ℤ b → ⊥) → b <ℤ a
less_from a b not_most = by_lt_z b a (λ less. less) (λ most. absurd (not_most most))

pub along : (i j : Interval) (v : ℤ) → LiesWithin i j → HasNumber i v → HasNumber j v
along i j v w h = record { from = omega (arith, ints); to = omega (arith, ints) }

pub in_itself : (i : Interval) → LiesWithin i i
in_itself i = record { from = omega (arith, ints); to = omega (arith, ints) }

pub within_twice : (i j k : Interval) → LiesWithin i j → LiesWithin j k → LiesWithin i k
within_twice i j k v w = record { from = omega (arith, ints); to = omega (arith, ints) }

pub lies_in_itself : (r : Rect) → LiesIn r r
lies_in_itself r = record { across = in_itself (columns r); up = in_itself (rows r) }

pub lies_in_twice : (q r s : Rect) → LiesIn q r → LiesIn r s → LiesIn q s
lies_in_twice q r s a b = record { across = within_twice (columns q) (columns r) (columns s) a.across b.across; up = within_twice (rows q) (rows r) (rows s) a.up b.up }

pub has_point_in : (r s : Rect) (p : Point) → LiesIn r s → HasPoint r p → HasPoint s p
has_point_in r s p l h = record { across = along (columns r) (columns s) p.x l.across h.across; up = along (rows r) (rows s) p.y l.up h.up }

pub same_columns_within : (r s : Rect) → HaveSameColumns r s → LiesWithin (columns r) (columns s)
same_columns_within r s e = record { from = omega (arith, ints); to = omega (arith, ints) }

pub same_rows_within : (r s : Rect) → HaveSameRows r s → LiesWithin (rows r) (rows s)
same_rows_within r s e = record { from = omega (arith, ints); to = omega (arith, ints) }

module _ (first second whole : Interval) (split : IsSplit first second whole) where
  pub first_within : LiesWithin first whole
  first_within = let o = second.ordered in record { from = omega (arith, ints); to = omega (arith, ints) }

  pub second_within : LiesWithin second whole
  second_within = let o = first.ordered in record { from = omega (arith, ints); to = omega (arith, ints) }

  pub in_a_part : (v : ℤ) → HasNumber whole v → HasNumber first v ⊎ HasNumber second v
  in_a_part v h = by_lt_z v second.low
      (λ less. inl (let r : HasNumber first v = record { from = omega (arith, ints); to = omega (arith, ints) } in r))
      (λ more. inr (let r : HasNumber second v = record { from = omega (arith, ints); to = omega (arith, ints) } in r))

-- the parts lie in the whole, and each of its points is in one of them
pub record AreParts (first second whole : Rect) : Type 0 where
  pub first_in : LiesIn first whole
  pub second_in : LiesIn second whole
  pub in_one : (p : Point) → HasPoint whole p → HasPoint first p ⊎ HasPoint second p

pub columns_back : (r s : Rect) (v : ℤ) → HaveSameColumns r s → HasNumber (columns s) v → HasNumber (columns r) v
columns_back r s v e h = record { from = omega (arith, ints); to = omega (arith, ints) }

pub rows_back : (r s : Rect) (v : ℤ) → HaveSameRows r s → HasNumber (rows s) v → HasNumber (rows r) v
rows_back r s v e h = record { from = omega (arith, ints); to = omega (arith, ints) }

pub stacked_parts : (lower upper whole : Rect) → AreStacked lower upper whole → AreParts lower upper whole
stacked_parts lower upper whole a = record {
  first_in = record { across = same_columns_within lower whole a.lower_columns; up = first_within (rows lower) (rows upper) (rows whole) a.in_rows };
  second_in = record { across = same_columns_within upper whole a.upper_columns; up = second_within (rows lower) (rows upper) (rows whole) a.in_rows };
  in_one = λ p h. elim (in_a_part (rows lower) (rows upper) (rows whole) a.in_rows p.y h.up) [
    | inl below ↦ inl (let r : HasPoint lower p = record { across = columns_back lower whole p.x a.lower_columns h.across; up = below } in r)
    | inr above ↦ inr (let r : HasPoint upper p = record { across = columns_back upper whole p.x a.upper_columns h.across; up = above } in r)
  ];
}

pub line_parts : (left right whole : Rect) → AreInLine left right whole → AreParts left right whole
line_parts left right whole a = record {
  first_in = record { across = first_within (columns left) (columns right) (columns whole) a.in_columns; up = same_rows_within left whole a.left_rows };
  second_in = record { across = second_within (columns left) (columns right) (columns whole) a.in_columns; up = same_rows_within right whole a.right_rows };
  in_one = λ p h. elim (in_a_part (columns left) (columns right) (columns whole) a.in_columns p.x h.across) [
    | inl before ↦ inl (let r : HasPoint left p = record { across = before; up = rows_back left whole p.y a.left_rows h.up } in r)
    | inr after ↦ inr (let r : HasPoint right p = record { across = after; up = rows_back right whole p.y a.right_rows h.up } in r)
  ];
}
