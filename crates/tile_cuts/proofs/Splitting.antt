-- The points of a rectangle and of its two parts.
use Rattle.std.proofs.Common.{ℤ, pos, ◌≡◌, ◌⊎◌, inl, inr, ◌+ℤ◌, ◌-ℤ◌, ◌≤ℤ◌, ◌<ℤ◌, sym, subst, ap, arith}
use Rattle.std.proofs.lemmas.Int.{ints, by_lt_z}
use Rattle.geo_rect.specs.declared.shapes.Interval.{Interval}
use Rattle.geo_rect.specs.declared.shapes.Point.{Point}
use Rattle.geo_rect.specs.declared.shapes.Rect.{Rect}
use Rattle.geo_rect.specs.Axis.{HasNumber}
use Rattle.geo_rect.specs.Plane.{columns, rows}
use Rattle.geo_rect.proofs.Same.{same_interval, same_rect}
use Rattle.plane_core.specs.LocalForm.{HaveSameColumns}
use Rattle.stitch_walk.specs.Pieces.{IsSplit, HaveSameRows, AreStacked, AreInLine}
use Rattle.stitch_walk.proofs.Facing.{same_point}
use Rattle.tile_cuts.specs.Parts.{ArePartsOf}

module _ (first second whole : Interval) (split : IsSplit first second whole) (v : ℤ) where
  in_first : HasNumber first v → HasNumber whole v
  in_first h = let a = split.from in let b = split.next in let c = split.to in let d = second.ordered in record { from = omega (arith, ints); to = omega (arith, ints) }

  in_second : HasNumber second v → HasNumber whole v
  in_second h = let a = split.from in let b = split.next in let c = split.to in let d = first.ordered in record { from = omega (arith, ints); to = omega (arith, ints) }

  in_either : HasNumber whole v → HasNumber first v ⊎ HasNumber second v
  in_either h =
      let a = split.from in
      let b = split.next in
      let c = split.to in
      by_lt_z v second.low
      (λ (less : v <ℤ second.low). inl (record { from = omega (arith, ints); to = omega (arith, ints) }))
      (λ (more : second.low ≤ℤ v). inr (record { from = more; to = omega (arith, ints) }))

  in_one : HasNumber first v → HasNumber second v → ⊥
  in_one h k = let b = split.next in omega (arith, ints)

-- intervals with the same ends have the same numbers
same_numbers : (i j : Interval) → i.low ≡ j.low → i.high ≡ j.high → (v : ℤ) → HasNumber i v → HasNumber j v
same_numbers i j l h v k = record { from = omega (arith, ints); to = omega (arith, ints) }

one_less : (a b : ℤ) → a ≡ b → a -ℤ pos 1 ≡ b -ℤ pos 1
one_less a b e = ap (λ (v : ℤ). v -ℤ pos 1) e

one_more : (a b : ℤ) → a ≡ b → a +ℤ pos 1 ≡ b +ℤ pos 1
one_more a b e = ap (λ (v : ℤ). v +ℤ pos 1) e

in_columns : (r s : Rect) → HaveSameColumns r s → (v : ℤ) → HasNumber (columns r) v → HasNumber (columns s) v
in_columns r s c = same_numbers (columns r) (columns s) c.left c.right

of_columns : (r s : Rect) → HaveSameColumns r s → (v : ℤ) → HasNumber (columns s) v → HasNumber (columns r) v
of_columns r s c = same_numbers (columns s) (columns r) (sym c.left) (sym c.right)

in_rows : (r s : Rect) → HaveSameRows r s → (v : ℤ) → HasNumber (rows r) v → HasNumber (rows s) v
in_rows r s c = same_numbers (rows r) (rows s) c.below c.above

of_rows : (r s : Rect) → HaveSameRows r s → (v : ℤ) → HasNumber (rows s) v → HasNumber (rows r) v
of_rows r s c = same_numbers (rows s) (rows r) (sym c.below) (sym c.above)

pub stacked_parts : (lower upper whole : Rect) → AreStacked lower upper whole → ArePartsOf lower upper whole
stacked_parts lower upper whole are = record {
  in_first = λ p h. record { across = in_columns lower whole are.lower_columns p.x h.across; up = in_first (rows lower) (rows upper) (rows whole) are.in_rows p.y h.up };
  in_second = λ p h. record { across = in_columns upper whole are.upper_columns p.x h.across; up = in_second (rows lower) (rows upper) (rows whole) are.in_rows p.y h.up };
  in_either = λ p h.
      elim (in_either (rows lower) (rows upper) (rows whole) are.in_rows p.y h.up) [
        | inl k ↦ inl (record { across = of_columns lower whole are.lower_columns p.x h.across; up = k })
        | inr k ↦ inr (record { across = of_columns upper whole are.upper_columns p.x h.across; up = k })
      ];
  in_one = λ p h k. in_one (rows lower) (rows upper) (rows whole) are.in_rows p.y h.up k.up;
  on_left = same_point _ _ (one_less lower.x0 whole.x0 are.lower_columns.left) are.in_rows.from;
  below = same_point _ _ are.lower_columns.left (one_less lower.y0 whole.y0 are.in_rows.from);
  on_right = same_point _ _ (one_more upper.x1 whole.x1 are.upper_columns.right) are.in_rows.to;
  above = same_point _ _ are.upper_columns.right (one_more upper.y1 whole.y1 are.in_rows.to);
}

pub in_line_parts : (left right whole : Rect) → AreInLine left right whole → ArePartsOf left right whole
in_line_parts left right whole are = record {
  in_first = λ p h. record { across = in_first (columns left) (columns right) (columns whole) are.in_columns p.x h.across; up = in_rows left whole are.left_rows p.y h.up };
  in_second = λ p h. record { across = in_second (columns left) (columns right) (columns whole) are.in_columns p.x h.across; up = in_rows right whole are.right_rows p.y h.up };
  in_either = λ p h.
      elim (in_either (columns left) (columns right) (columns whole) are.in_columns p.x h.across) [
        | inl k ↦ inl (record { across = k; up = of_rows left whole are.left_rows p.y h.up })
        | inr k ↦ inr (record { across = k; up = of_rows right whole are.right_rows p.y h.up })
      ];
  in_one = λ p h k. in_one (columns left) (columns right) (columns whole) are.in_columns p.x h.across k.across;
  on_left = same_point _ _ (one_less left.x0 whole.x0 are.in_columns.from) are.left_rows.below;
  below = same_point _ _ are.in_columns.from (one_less left.y0 whole.y0 are.left_rows.below);
  on_right = same_point _ _ (one_more right.x1 whole.x1 are.in_columns.to) are.right_rows.above;
  above = same_point _ _ are.in_columns.to (one_more right.y1 whole.y1 are.right_rows.above);
}

less_back : (a b : ℤ) → a -ℤ pos 1 ≡ b -ℤ pos 1 → a ≡ b
less_back a b e = omega (arith, ints)

more_back : (a b : ℤ) → a +ℤ pos 1 ≡ b +ℤ pos 1 → a ≡ b
more_back a b e = omega (arith, ints)

-- the two corners of the parts are those of the whole
pub corners_parts : (first second whole r : Rect) → ArePartsOf first second whole → r.x0 ≡ first.x0 → r.y0 ≡ first.y0 → r.x1 ≡ second.x1 → r.y1 ≡ second.y1 → ArePartsOf first second r
corners_parts first second whole r are x0 y0 x1 y1 =
    let left : first.x0 ≡ whole.x0 = less_back first.x0 whole.x0 (ap (λ (p : Point). p.x) are.on_left) in
    let low : first.y0 ≡ whole.y0 = ap (λ (p : Point). p.y) are.on_left in
    let right : second.x1 ≡ whole.x1 = more_back second.x1 whole.x1 (ap (λ (p : Point). p.x) are.on_right) in
    let high : second.y1 ≡ whole.y1 = ap (λ (p : Point). p.y) are.on_right in
    let same : whole ≡ r = same_rect whole r (same_interval (columns whole) (columns r) (omega (arith, ints)) (omega (arith, ints))) (same_interval (rows whole) (rows r) (omega (arith, ints)) (omega (arith, ints))) in
    let P : Rect → Type 0 = λ s. ArePartsOf first second s in
    subst P same are
