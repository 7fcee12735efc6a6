-- A band from what the code finds beside the area.
use Rattle.std.proofs.Common.{ℕ, suc, ◌+◌, ◌<◌, ℤ, pos, ◌-ℤ◌, ◌+ℤ◌, ◌≡◌, sym, subst, List, ◌∷◌, length, get_or, drop, drop-cons, Option, Some, None, arith}
use Rattle.std.proofs.lemmas.Int.{ints}
use Rattle.geo_rect.specs.declared.shapes.Interval.{Interval}
use Rattle.geo_rect.specs.declared.shapes.Point.{Point}
use Rattle.geo_rect.specs.declared.shapes.Rect.{Rect}
use Rattle.geo_rect.specs.Axis.{HasNumber, LiesWithin}
use Rattle.geo_rect.specs.Plane.{columns, rows, HasPoint}
use Rattle.plane_core.specs.declared.strips.Strip.{Strip}
use Rattle.plane_core.specs.Strips.{IsHeld}
use Rattle.plane_core.proofs.Labelled.{held_by_rest}
use Rattle.flat_plane.specs.Painting.{EndsFrom, IsBeyond, IsCapped, IsStripAt, StartsBy, StartsIn}

pub held_on : (strips : List Strip) (i : ℕ) (s : Strip) (p : Point) → i < length strips → s ≡ get_or strips i s → ¬ HasPoint s.area p → IsHeld (drop i strips) p → IsHeld (drop (i + 1) strips) p
held_on strips i s p lt is n h =
    let P : List Strip → Type 0 = λ l. IsHeld l p in
    let Q : Strip → Type 0 = λ t. ¬ HasPoint t.area p in
    let e : drop i strips ≡ get_or strips i s ∷ drop (suc i) strips = drop-cons strips i s lt in
    let rest : IsHeld (drop (suc i) strips) p = held_by_rest (get_or strips i s) (drop (suc i) strips) p (subst Q is n) (subst P e h) in
    let N : ℕ → Type 0 = λ k. IsHeld (drop k strips) p in
    let k : suc i ≡ i + 1 = omega arith in
    subst N k rest

pub beyond_from : (strips : List Strip) (domain : Rect) (x : ℤ) (band : Interval) (p : Point) (o : Option Strip) → IsStripAt strips domain p o → p.x ≡ x → HasNumber (rows domain) p.y → IsCapped band o → IsBeyond strips domain x band o
beyond_from strips domain x band p None is e up cap =
    λ h. is (record { across = (let P : ℤ → Type 0 = λ v. HasNumber (columns domain) v in subst P (sym e) h); up = up })
beyond_from strips domain x band p (Some s) is e up cap = record {
  listed = is.0;
  column = let P : ℤ → Type 0 = λ v. HasNumber (columns s.area) v in subst P e is.1.across;
  rows_within = cap;
}

pub capped_on : (i j : Interval) (o : Option Strip) → LiesWithin j i → IsCapped i o → IsCapped j o
capped_on i j None w c = tt
capped_on i j (Some s) w c =
    let a = w.from in let b = w.to in let d = c.from in let e = c.to in
    record { from = omega (arith, ints); to = omega (arith, ints) }

pub starts_in : (strips : List Strip) (domain : Rect) (p : Point) (y : ℤ) (o : Option Strip) → IsStripAt strips domain p o → p.y ≡ y → StartsIn y o
starts_in strips domain p y None is e = tt
starts_in strips domain p y (Some s) is e = let P : ℤ → Type 0 = λ v. HasNumber (rows s.area) v in subst P e is.1.up

pub starts_by : (strips : List Strip) (domain : Rect) (p : Point) (x : ℤ) (o : Option Strip) → IsStripAt strips domain p o → p.x ≡ x -ℤ pos 1 → StartsBy x o
starts_by strips domain p x None is e = tt
starts_by strips domain p x (Some s) is e = let a = is.1.across.from in omega (arith, ints)

pub ends_from : (strips : List Strip) (domain : Rect) (p : Point) (x : ℤ) (o : Option Strip) → IsStripAt strips domain p o → p.x ≡ x +ℤ pos 1 → EndsFrom x o
ends_from strips domain p x None is e = tt
ends_from strips domain p x (Some s) is e = let a = is.1.across.to in omega (arith, ints)
