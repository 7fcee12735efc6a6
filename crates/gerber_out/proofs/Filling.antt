-- What the machine does where a contour ends.
use Rattle.std.proofs.Common.{◌≡◌, ◌≤◌, ℤ, pos, negsuc, ◌≤ℤ◌, List, [], ◌∷◌, ◌++◌, get_or, sym, ap, ◌∙◌, subst, arith}
use Rattle.std.proofs.lemmas.Int.{ints}
use Rattle.geo_rect.proofs.Same.{same_interval, same_rect}
use Rattle.geo_rect.specs.Plane.{columns, rows}
use Rattle.geo_rect.specs.declared.shapes.Rect.{Rect}
use Rattle.gerber_out.specs.Contours.{units, contour, IsContourOf}
use Rattle.gerber_out.specs.Machine.{Fills}
use Rattle.gerber_out.specs.declared.contours.Corner.{Corner}
use Rattle.gerber_out.specs.declared.contours.TheConstants.{MOST_UNITS}
use Rattle.gerber_out.specs.declared.machine.Machine.{Machine}
use Rattle.gerber_out.specs.declared.machine.Stage.TheVariants.{Outside, Inside}

pub filled : (old : Machine) (points : List Corner) (area : Rect) (none : List Corner) (more : List Rect) → old.stage ≡ Inside → points ≡ old.contour
    → IsContourOf points area → none ≡ [] → more ≡ old.filled ++ area ∷ [] → Fills old (record { stage = Outside; contour = none; filled = more })
filled old points area none more stage e drawn empty one = record {
  area = area;
  before = stage;
  drawn = subst (λ (p : List Corner). IsContourOf p area) e drawn;
  after = cc;
}

pub same_units : (a b : ℤ) → pos 0 ≤ℤ a → pos 0 ≤ℤ b → units a ≡ units b → a ≡ b
same_units (pos m) (pos n) ha hb e = let same : m ≡ n = omega arith in ap pos same
same_units (negsuc m) b ha hb e = absurd (omega (arith, ints))
same_units (pos m) (negsuc n) ha hb e = absurd (omega (arith, ints))

pub units_most : (z : ℤ) → pos 0 ≤ℤ z → z ≤ℤ pos 9999999 → units z ≤ MOST_UNITS
units_most (pos n) from to = omega (arith, ints)
units_most (negsuc n) from to = omega arith

-- one rectangle at most has this contour
pub same_area : (points : List Corner) (r s : Rect) → IsContourOf points r → IsContourOf points s → r ≡ s
same_area points r s hr hs =
    let same : contour r ≡ contour s = hr.same ∙ sym hs.same in
    let x0 : units r.x0 ≡ units s.x0 = ap (λ (p : List Corner). (get_or p 0 (record { x = 0; y = 0 })).x) same in
    let y0 : units r.y0 ≡ units s.y0 = ap (λ (p : List Corner). (get_or p 0 (record { x = 0; y = 0 })).y) same in
    let x1 : units r.x1 ≡ units s.x1 = ap (λ (p : List Corner). (get_or p 2 (record { x = 0; y = 0 })).x) same in
    let y1 : units r.y1 ≡ units s.y1 = ap (λ (p : List Corner). (get_or p 2 (record { x = 0; y = 0 })).y) same in
    let ra = hr.fillable.across in let ru = hr.fillable.up in let sa = hs.fillable.across in let su = hs.fillable.up in
    same_rect r s
    (same_interval (columns r) (columns s) (same_units r.x0 s.x0 ra.from sa.from x0) (same_units r.x1 s.x1 (omega (arith, ints, ra.from, ra.long)) (omega (arith, ints, sa.from, sa.long)) x1))
    (same_interval (rows r) (rows s) (same_units r.y0 s.y0 ru.from su.from y0) (same_units r.y1 s.y1 (omega (arith, ints, ru.from, ru.long)) (omega (arith, ints, su.from, su.long)) y1))
