-- The band with the columns next to it that have the label.
use Rattle.std.proofs.Common.{ℤ, pos, ◌≡◌, ◌<◌, ◌<ℤ◌, ◌-ℤ◌, sym, subst, arith}
use Rattle.std.proofs.lemmas.Int.{ints, clamps}
use Rattle.std.specs.Int.{int_max}
use Rattle.std.specs.Int.RustNames.{unsigned_abs}
use Rattle.geo_rect.specs.declared.ids.Label.{Label}
use Rattle.geo_rect.specs.declared.shapes.Interval.{Interval}
use Rattle.geo_rect.specs.declared.shapes.Point.{Point}
use Rattle.geo_rect.specs.declared.shapes.Rect.{Rect}
use Rattle.geo_rect.specs.Axis.{LiesWithin}
use Rattle.geo_rect.specs.Plane.{columns, rows, HasPoint, LiesIn}
use Rattle.plane_core.specs.Labels.{IsSmall, IsWithinReach}
use Rattle.tile_store.specs.Store.{Store}
use Rattle.stitch_walk.specs.Pieces.{HasLabel}
use Rattle.tile_paint.specs.States.{foot, IsBandOf, IsLeftEnd, IsWidenedLeft}

-- a label at a point is a label at the point of the same column and row
pub label_at_foot : (s : Store) (band : Rect) (label : Label) (p : Point) (x : ℤ) → p.x ≡ x → p.y ≡ band.y0 → HasLabel s p label → HasLabel s (foot band x) label
label_at_foot s band label p x e f h =
    let Q : ℤ → Type 0 = λ z. HasLabel s (record { x = z; y = p.y }) label in
    let R : ℤ → Type 0 = λ z. HasLabel s (record { x = x; y = z }) label in
    subst R f (subst Q e h)

pub label_from_foot : (s : Store) (band : Rect) (label : Label) (p : Point) (x : ℤ) → p.x ≡ x → p.y ≡ band.y0 → HasLabel s (foot band x) label → HasLabel s p label
label_from_foot s band label p x e f h =
    let Q : ℤ → Type 0 = λ z. HasLabel s (record { x = z; y = band.y0 }) label in
    let R : ℤ → Type 0 = λ z. HasLabel s (record { x = p.x; y = z }) label in
    subst R (sym f) (subst Q (sym e) h)

pub one_more_left : (band wide domain : Rect) (p : Point) → LiesIn band domain → HasPoint domain p → p.x ≡ band.x0 -ℤ pos 1 → wide.x0 ≡ band.x0 -ℤ pos 1 → wide.x1 ≡ band.x1 → wide.y0 ≡ band.y0 → wide.y1 ≡ band.y1 → LiesIn wide domain
one_more_left band wide domain p l h px a b c d =
    let f = l.across.to in let g = l.up.from in let i = l.up.to in let j = h.across.from in
    record { across = record { from = omega (arith, ints); to = omega (arith, ints) }; up = record { from = omega (arith, ints); to = omega (arith, ints) } }

pub one_more_right : (band wide domain : Rect) (p : Point) → LiesIn band domain → HasPoint domain p → p.x ≡ wide.x1 → wide.x0 ≡ band.x0 → wide.y0 ≡ band.y0 → wide.y1 ≡ band.y1 → LiesIn wide domain
one_more_right band wide domain p l h px a c d =
    let f = l.across.from in let g = l.up.from in let i = l.up.to in let j = h.across.to in
    record { across = record { from = omega (arith, ints); to = omega (arith, ints) }; up = record { from = omega (arith, ints); to = omega (arith, ints) } }

pub left_end_of : (s : Store) (band wide new : Rect) (label : Label) → IsWidenedLeft s band label wide → new.x0 ≡ wide.x0 → IsLeftEnd s band label new.x0
left_end_of s band wide new label w e = let Q : ℤ → Type 0 = λ z. IsLeftEnd s band label z in subst Q (sym e) w.left

reach_along : (i j : Interval) → LiesWithin i j → IsWithinReach j → IsWithinReach i
reach_along i j w r =
    let a = w.from in let b = w.to in let c = r.from in let d = r.to in
    record { from = omega (arith, ints); to = omega (arith, ints) }

-- what lies in a small rectangle is small
pub small_in : (r s : Rect) → LiesIn r s → IsSmall s → IsSmall r
small_in r s l k = record { across = reach_along (columns r) (columns s) l.across k.across; up = reach_along (rows r) (rows s) l.up k.up }

pub band_in : (area band domain : Rect) → IsBandOf area band → LiesIn area domain → LiesIn band domain
band_in area band domain b l =
    let bl = b.left in let br = b.right in let bf = b.from in let bt = b.to in
    let a = l.across.from in let c = l.across.to in let d = l.up.from in let e = l.up.to in
    record { across = record { from = omega (arith, ints); to = omega (arith, ints) }; up = record { from = omega (arith, ints); to = omega (arith, ints) } }

-- what is left falls
pub less_left : (to from next : ℤ) → from <ℤ to → from <ℤ next → unsigned_abs (int_max (to -ℤ next) (pos 0)) < unsigned_abs (int_max (to -ℤ from) (pos 0))
less_left to from next a b = omega (arith, ints, clamps)
