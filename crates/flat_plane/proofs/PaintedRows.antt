-- What painting leaves in a row.
use Rattle.std.proofs.Common.{ℤ, pos, ◌-ℤ◌, ◌+ℤ◌, ◌≤ℤ◌, ◌<ℤ◌, ◌≡◌, refl, sym, subst, ◌∙◌, ◌⊎◌, inl, inr, arith}
use Rattle.std.proofs.lemmas.Int.{ints, clamps, by_lt_z}
use Rattle.geo_rect.specs.declared.ids.Label.{Label}
use Rattle.geo_rect.specs.declared.shapes.Interval.{Interval}
use Rattle.geo_rect.specs.declared.shapes.Point.{Point}
use Rattle.geo_rect.specs.declared.shapes.Rect.{Rect}
use Rattle.geo_rect.specs.Axis.{HasNumber, LiesWithin}
use Rattle.geo_rect.specs.Plane.{columns, rows, rect_of, HasPoint}
use Rattle.plane_core.specs.declared.strips.Strip.{Strip}
use Rattle.plane_core.specs.Labels.{painted}
use Rattle.plane_core.specs.Strips.{IsRunInRow, IsStrip}
use Rattle.plane_core.proofs.Alike.{IsAlike, run_alike}
use Rattle.plane_core.proofs.Labelled.{painted_within, painted_elsewhere}
use Rattle.flat_plane.specs.Draft.{IsAffected, IsRunInEachRow}
use Rattle.flat_plane.specs.Painting.{IsPartAfter, IsPartBefore}
use Rattle.flat_plane.proofs.Decided.{number_decided}

-- new has the label in the area, and is old elsewhere
pub record IsRepainted (area : Rect) (label : Label) (old new : Point → Label) : Type 0 where
  pub within : (p : Point) → HasPoint area p → new p ≡ label
  pub elsewhere : (p : Point) → ¬ HasPoint area p → new p ≡ old p

pub repainted : (area : Rect) (label : Label) (f : Point → Label) → IsRepainted area label f (painted f area label)
repainted area label f = record { within = painted_within f area label; elsewhere = painted_elsewhere f area label }

-- a run stays one where its labels and those of its neighbours stay
run_stays : (domain : Rect) (f g : Point → Label) (s : Strip) (y : ℤ) → IsRunInRow domain f s y → ((x : ℤ) → (s.area.x0 -ℤ pos 1) ≤ℤ x → x ≤ℤ (s.area.x1 +ℤ pos 1) → g (record { x = x; y = y }) ≡ f (record { x = x; y = y })) → IsRunInRow domain g s y
run_stays domain f g s y r stays =
    let o = s.area.x_ordered in
    record {
      in_domain = r.in_domain;
      run = record {
        inside = r.run.inside;
        same = λ x h. (let a = h.from in let b = h.to in stays x (omega (arith, ints)) (omega (arith, ints))) ∙ r.run.same x h;
        ends_left = λ d e. r.run.ends_left d (sym (stays (s.area.x0 -ℤ pos 1) (omega (arith, ints)) (omega (arith, ints))) ∙ e);
        ends_right = λ d e. r.run.ends_right d (sym (stays (s.area.x1 +ℤ pos 1) (omega (arith, ints)) (omega (arith, ints))) ∙ e);
      };
    }

pub row_outside : (domain area : Rect) (m : Label) (f g : Point → Label) (s : Strip) (y : ℤ) → IsRepainted area m f g → ¬ HasNumber (rows area) y → IsRunInRow domain f s y → IsRunInRow domain g s y
row_outside domain area m f g s y is n r =
    run_stays domain f g s y r (λ x a b. is.elsewhere (record { x = x; y = y }) (λ h. n h.up))

row_away : (domain area : Rect) (m : Label) (f g : Point → Label) (s : Strip) (y : ℤ) → IsRepainted area m f g → ¬ IsAffected area s.area → HasNumber (rows s.area) y → HasNumber (rows area) y → IsRunInRow domain f s y → IsRunInRow domain g s y
row_away domain area m f g s y is n hs ha r =
    run_stays domain f g s y r (λ x a b. is.elsewhere (record { x = x; y = y }) (λ h.
    let p = h.across.from in let q = h.across.to in
    n (record {
      across = record { first_reaches = omega (arith, ints); second_reaches = omega (arith, ints) };
      up = record { number = y; in_first = ha; in_second = hs };
    })))

-- a strip that painting cannot change is a run in each of its rows still
pub untouched_runs : (domain area : Rect) (m : Label) (f g : Point → Label) (s : Strip) → IsRepainted area m f g → ¬ IsAffected area s.area → IsStrip domain f s → IsRunInEachRow domain g s
untouched_runs domain area m f g s is n i y hs =
    elim (number_decided (rows area) y) [
      | inl ha ↦ row_away domain area m f g s y is n hs ha (i.in_each_row y hs)
      | inr no' ↦ row_outside domain area m f g s y is no' (i.in_each_row y hs)
    ]

-- the strip with other rows
abbrev pub in_rows : Strip → Interval → Strip
in_rows s band = record { area = rect_of (columns s.area) band; label = s.label }

pub in_rows_alike : (s : Strip) (band : Interval) → IsAlike s (in_rows s band)
in_rows_alike s band = record { same_label = refl; same_columns = record { left = refl; right = refl } }

end_runs : (domain area : Rect) (m : Label) (f g : Point → Label) (s : Strip) (band : Interval) → IsRepainted area m f g → IsStrip domain f s → LiesWithin band (rows s.area) → ((y : ℤ) → HasNumber band y → ¬ HasNumber (rows area) y) → IsRunInEachRow domain g (in_rows s band)
end_runs domain area m f g s band is i within off y hy =
    let a = within.from in let b = within.to in let p = hy.from in let q = hy.to in
    let hs : HasNumber (rows s.area) y = record { from = omega (arith, ints); to = omega (arith, ints) } in
    run_alike domain g s (in_rows s band) y (in_rows_alike s band)
    (row_outside domain area m f g s y is (off y hy) (i.in_each_row y hs))

pub lower_runs : (domain area : Rect) (m : Label) (f g : Point → Label) (s e : Strip) (band : Interval) → IsRepainted area m f g → IsStrip domain f s → IsPartBefore (rows s.area) (rows area) band → e ≡ in_rows s band → IsRunInEachRow domain g e
lower_runs domain area m f g s e band is i part eq =
    let l = part.low in let h = part.high in let o = s.area.y_ordered in
    let P : Strip → Type 0 = λ t. IsRunInEachRow domain g t in
    subst P (sym eq) (end_runs domain area m f g s band is i
    (record { from = omega (arith, ints, clamps); to = omega (arith, ints, clamps) })
    (λ y hy ha. let a = hy.to in let b = ha.from in omega (arith, ints, clamps)))

pub upper_runs : (domain area : Rect) (m : Label) (f g : Point → Label) (s e : Strip) (band : Interval) → IsRepainted area m f g → IsStrip domain f s → IsPartAfter (rows s.area) (rows area) band → e ≡ in_rows s band → IsRunInEachRow domain g e
upper_runs domain area m f g s e band is i part eq =
    let l = part.low in let h = part.high in let o = s.area.y_ordered in
    let P : Strip → Type 0 = λ t. IsRunInEachRow domain g t in
    subst P (sym eq) (end_runs domain area m f g s band is i
    (record { from = omega (arith, ints, clamps); to = omega (arith, ints, clamps) })
    (λ y hy ha. let a = hy.from in let b = ha.to in omega (arith, ints, clamps)))

pub lower_has : (area : Rect) (s e : Strip) (band : Interval) (p : Point) → IsPartBefore (rows s.area) (rows area) band → e ≡ in_rows s band → HasPoint s.area p → p.y <ℤ area.y0 → HasPoint e.area p
lower_has area s e band p part eq hp below =
    let l = part.low in let h = part.high in let a = hp.up.from in let b = hp.up.to in
    let P : Strip → Type 0 = λ t. HasPoint t.area p in
    subst P (sym eq) (record { across = hp.across; up = record { from = omega (arith, ints, clamps); to = omega (arith, ints, clamps) } })

pub upper_has : (area : Rect) (s e : Strip) (band : Interval) (p : Point) → IsPartAfter (rows s.area) (rows area) band → e ≡ in_rows s band → HasPoint s.area p → area.y1 <ℤ p.y → HasPoint e.area p
upper_has area s e band p part eq hp above =
    let l = part.low in let h = part.high in let a = hp.up.from in let b = hp.up.to in
    let P : Strip → Type 0 = λ t. HasPoint t.area p in
    subst P (sym eq) (record { across = hp.across; up = record { from = omega (arith, ints, clamps); to = omega (arith, ints, clamps) } })

-- a row that is not one of the area's lies below or above it
pub off_rows : (i : Interval) (y : ℤ) → ¬ HasNumber i y → (y <ℤ i.low) ⊎ (i.high <ℤ y)
off_rows i y n =
    by_lt_z y i.low (λ below. inl below)
    (λ from. by_lt_z i.high y (λ above. inr above) (λ to. absurd (n (record { from = from; to = to }))))
