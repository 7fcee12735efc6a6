-- The local form is the definition.
use Rattle.std.proofs.Common.{ℤ, pos, ◌-ℤ◌, ◌+ℤ◌, ◌≤ℤ◌, ◌≡◌, ◌≢◌, sym, subst, ◌∙◌, List, Contains, arith}
use Rattle.std.proofs.lemmas.Int.{ints, by_lt_z}
use Rattle.geo_rect.specs.declared.ids.Label.{Label}
use Rattle.geo_rect.specs.declared.shapes.Point.{Point}
use Rattle.geo_rect.specs.declared.shapes.Rect.{Rect}
use Rattle.geo_rect.specs.Axis.{HasNumber}
use Rattle.geo_rect.specs.Plane.{columns, rows, HasPoint, LiesIn}
use Rattle.plane_core.specs.declared.strips.Strip.{Strip}
use Rattle.plane_core.specs.LocalForm.{IsSideDefect, IsStackDefect, HasLocalForm}
use Rattle.plane_core.specs.Strips.{AreStrips, IsHeld, IsRunInRow, IsStrip}
use Rattle.plane_core.proofs.Alike.{IsAlike, alike_back, run_alike, runs_meet, low_number, high_number, strips_meet}
use Rattle.plane_core.proofs.Runs.{within_has}

pub strip_lies_in : (domain : Rect) (f : Point → Label) (s : Strip) → IsStrip domain f s → LiesIn s.area domain
strip_lies_in domain f s i =
    let bottom : IsRunInRow domain f s s.area.y0 = i.in_each_row s.area.y0 (low_number (rows s.area)) in
    let top : IsRunInRow domain f s s.area.y1 = i.in_each_row s.area.y1 (high_number (rows s.area)) in
    record { across = bottom.run.inside; up = record { from = bottom.in_domain.from; to = top.in_domain.to } }

pub strip_labels : (domain : Rect) (f : Point → Label) (s : Strip) → IsStrip domain f s → (p : Point) → HasPoint s.area p → f p ≡ s.label
strip_labels domain f s i p h = (i.in_each_row p.y h.up).run.same p.x h.across

strips_not_beside : (domain : Rect) (f : Point → Label) (s t : Strip) → IsStrip domain f s → IsStrip domain f t → IsSideDefect s t → ⊥
strips_not_beside domain f s t is it d =
    let rs : IsRunInRow domain f s d.row = is.in_each_row d.row d.row_of_first in
    let rt : IsRunInRow domain f t d.row = it.in_each_row d.row d.row_of_second in
    let here : f (record { x = t.area.x0; y = d.row }) ≡ t.label = rt.run.same t.area.x0 (low_number (columns t.area)) in
    let inside : HasNumber (columns domain) t.area.x0 = within_has (columns t.area) (columns domain) t.area.x0 rt.run.inside (low_number (columns t.area)) in
    let P : ℤ → Type 0 = λ x. f (record { x = x; y = d.row }) ≡ s.label in
    let Q : ℤ → Type 0 = λ x. HasNumber (columns domain) x in
    rs.run.ends_right (subst Q d.touch inside) (subst P d.touch (here ∙ sym d.same_label))

strips_not_stacked : (domain : Rect) (f : Point → Label) (s t : Strip) → IsStrip domain f s → IsStrip domain f t → IsStackDefect s t → ⊥
strips_not_stacked domain f s t is it d =
    let a : IsAlike t s = alike_back s t (record { same_label = d.same_label; same_columns = d.same_columns }) in
    let r : IsRunInRow domain f s t.area.y0 = run_alike domain f t s t.area.y0 a (it.in_each_row t.area.y0 (low_number (rows t.area))) in
    let P : ℤ → Type 0 = λ y. IsRunInRow domain f s y in
    is.ends_above (subst P d.touch r)

pub local_from_strips : (domain : Rect) (f : Point → Label) (ss : List Strip) → AreStrips domain f ss → HasLocalForm domain f ss
local_from_strips domain f ss are = record {
  inside = λ s h. strip_lies_in domain f s (are.each s h);
  labelled = λ s h. strip_labels domain f s (are.each s h);
  covered = are.covered;
  apart = λ s t hs ht p ps pt. strips_meet domain f s t p (are.each s hs) (are.each t ht) ps pt;
  no_side_defect = λ s t hs ht. strips_not_beside domain f s t (are.each s hs) (are.each t ht);
  no_stack_defect = λ s t hs ht. strips_not_stacked domain f s t (are.each s hs) (are.each t ht);
  in_order = are.in_order;
}

-- what holds of s holds of another piece that shares a point with it
same_as : (domain : Rect) (f : Point → Label) (ss : List Strip) (s t : Strip) (p : Point) → HasLocalForm domain f ss → Contains ss s → Contains ss t → HasPoint s.area p → HasPoint t.area p → (q : Point) → HasPoint t.area q → HasPoint s.area q
same_as domain f ss s t p l hs ht ps pt q qt =
    let P : Strip → Type 0 = λ u. HasPoint u.area q in
    subst P (sym (l.apart s t hs ht p ps pt)) qt

left_end : (domain : Rect) (f : Point → Label) (ss : List Strip) (s : Strip) (y : ℤ) → HasLocalForm domain f ss → Contains ss s → HasNumber (rows s.area) y → HasNumber (rows domain) y → HasNumber (columns domain) (s.area.x0 -ℤ pos 1) → f (record { x = s.area.x0 -ℤ pos 1; y = y }) ≢ s.label
left_end domain f ss s y l hs hy dy dx e =
    let p : Point = record { x = s.area.x0 -ℤ pos 1; y = y } in
    let q : Point = record { x = s.area.x0; y = y } in
    let h : IsHeld ss p = l.covered p (record { across = dx; up = dy }) in
    let t : Strip = h.by in
    let labels : t.label ≡ s.label = sym (l.labelled t h.is_listed p h.has_point) ∙ e in
    let qs : HasPoint s.area q = record { across = low_number (columns s.area); up = hy } in
    let ends : t.area.x1 ≤ℤ (s.area.x0 -ℤ pos 1) =
    by_lt_z (s.area.x0 -ℤ pos 1) t.area.x1
    (λ more.
    let from = h.has_point.across.from in
    let qt : HasPoint t.area q = record { across = record { from = omega (arith, ints); to = omega (arith, ints) }; up = h.has_point.up } in
    let back : HasPoint s.area p = same_as domain f ss s t q l hs h.is_listed qs qt p h.has_point in
    let b = back.across.from in absurd (omega (arith, ints)))
    (λ k. k) in
    let reaches = h.has_point.across.to in
    l.no_side_defect t s h.is_listed hs (record { same_label = labels; row = y; row_of_first = h.has_point.up; row_of_second = hy; touch = omega (arith, ints) })

right_end : (domain : Rect) (f : Point → Label) (ss : List Strip) (s : Strip) (y : ℤ) → HasLocalForm domain f ss → Contains ss s → HasNumber (rows s.area) y → HasNumber (rows domain) y → HasNumber (columns domain) (s.area.x1 +ℤ pos 1) → f (record { x = s.area.x1 +ℤ pos 1; y = y }) ≢ s.label
right_end domain f ss s y l hs hy dy dx e =
    let p : Point = record { x = s.area.x1 +ℤ pos 1; y = y } in
    let q : Point = record { x = s.area.x1; y = y } in
    let h : IsHeld ss p = l.covered p (record { across = dx; up = dy }) in
    let t : Strip = h.by in
    let labels : s.label ≡ t.label = sym e ∙ l.labelled t h.is_listed p h.has_point in
    let qs : HasPoint s.area q = record { across = high_number (columns s.area); up = hy } in
    let starts : (s.area.x1 +ℤ pos 1) ≤ℤ t.area.x0 =
    by_lt_z t.area.x0 (s.area.x1 +ℤ pos 1)
    (λ more.
    let to = h.has_point.across.to in
    let qt : HasPoint t.area q = record { across = record { from = omega (arith, ints); to = omega (arith, ints) }; up = h.has_point.up } in
    let back : HasPoint s.area p = same_as domain f ss s t q l hs h.is_listed qs qt p h.has_point in
    let b = back.across.to in absurd (omega (arith, ints)))
    (λ k. k) in
    let reaches = h.has_point.across.from in
    l.no_side_defect s t hs h.is_listed (record { same_label = labels; row = y; row_of_first = hy; row_of_second = h.has_point.up; touch = omega (arith, ints) })

local_run : (domain : Rect) (f : Point → Label) (ss : List Strip) (s : Strip) (y : ℤ) → HasLocalForm domain f ss → Contains ss s → HasNumber (rows s.area) y → IsRunInRow domain f s y
local_run domain f ss s y l hs hy =
    let i : LiesIn s.area domain = l.inside s hs in
    let dy : HasNumber (rows domain) y = within_has (rows s.area) (rows domain) y i.up hy in
    record {
      in_domain = dy;
      run = record {
        inside = i.across;
        same = λ x hx. l.labelled s hs (record { x = x; y = y }) (record { across = hx; up = hy });
        ends_left = left_end domain f ss s y l hs hy dy;
        ends_right = right_end domain f ss s y l hs hy dy;
      };
    }

bottom_end : (domain : Rect) (f : Point → Label) (ss : List Strip) (s : Strip) → HasLocalForm domain f ss → Contains ss s → IsRunInRow domain f s (s.area.y0 -ℤ pos 1) → ⊥
bottom_end domain f ss s l hs r =
    let p : Point = record { x = s.area.x0; y = s.area.y0 -ℤ pos 1 } in
    let q : Point = record { x = s.area.x0; y = s.area.y0 } in
    let first : HasNumber (columns s.area) s.area.x0 = low_number (columns s.area) in
    let h : IsHeld ss p = l.covered p (record { across = within_has (columns s.area) (columns domain) s.area.x0 r.run.inside first; up = r.in_domain }) in
    let t : Strip = h.by in
    let rt : IsRunInRow domain f t (s.area.y0 -ℤ pos 1) = local_run domain f ss t (s.area.y0 -ℤ pos 1) l h.is_listed h.has_point.up in
    let a : IsAlike t s = runs_meet domain f t s p rt r h.has_point.across first in
    let qs : HasPoint s.area q = record { across = first; up = low_number (rows s.area) } in
    let ends : t.area.y1 ≤ℤ (s.area.y0 -ℤ pos 1) =
    by_lt_z (s.area.y0 -ℤ pos 1) t.area.y1
    (λ more.
    let from = h.has_point.up.from in
    let qt : HasPoint t.area q = record { across = h.has_point.across; up = record { from = omega (arith, ints); to = omega (arith, ints) } } in
    let back : HasPoint s.area p = same_as domain f ss s t q l hs h.is_listed qs qt p h.has_point in
    let b = back.up.from in absurd (omega (arith, ints)))
    (λ k. k) in
    let reaches = h.has_point.up.to in
    l.no_stack_defect t s h.is_listed hs (record { same_label = a.same_label; same_columns = a.same_columns; touch = omega (arith, ints) })

top_end : (domain : Rect) (f : Point → Label) (ss : List Strip) (s : Strip) → HasLocalForm domain f ss → Contains ss s → IsRunInRow domain f s (s.area.y1 +ℤ pos 1) → ⊥
top_end domain f ss s l hs r =
    let p : Point = record { x = s.area.x0; y = s.area.y1 +ℤ pos 1 } in
    let q : Point = record { x = s.area.x0; y = s.area.y1 } in
    let first : HasNumber (columns s.area) s.area.x0 = low_number (columns s.area) in
    let h : IsHeld ss p = l.covered p (record { across = within_has (columns s.area) (columns domain) s.area.x0 r.run.inside first; up = r.in_domain }) in
    let t : Strip = h.by in
    let rt : IsRunInRow domain f t (s.area.y1 +ℤ pos 1) = local_run domain f ss t (s.area.y1 +ℤ pos 1) l h.is_listed h.has_point.up in
    let a : IsAlike s t = runs_meet domain f s t p r rt first h.has_point.across in
    let qs : HasPoint s.area q = record { across = first; up = high_number (rows s.area) } in
    let starts : (s.area.y1 +ℤ pos 1) ≤ℤ t.area.y0 =
    by_lt_z t.area.y0 (s.area.y1 +ℤ pos 1)
    (λ more.
    let to = h.has_point.up.to in
    let qt : HasPoint t.area q = record { across = h.has_point.across; up = record { from = omega (arith, ints); to = omega (arith, ints) } } in
    let back : HasPoint s.area p = same_as domain f ss s t q l hs h.is_listed qs qt p h.has_point in
    let b = back.up.to in absurd (omega (arith, ints)))
    (λ k. k) in
    let reaches = h.has_point.up.from in
    l.no_stack_defect s t hs h.is_listed (record { same_label = a.same_label; same_columns = a.same_columns; touch = omega (arith, ints) })

pub strips_from_local : (domain : Rect) (f : Point → Label) (ss : List Strip) → HasLocalForm domain f ss → AreStrips domain f ss
strips_from_local domain f ss l = record {
  each = λ s h. record {
    in_each_row = λ y hy. local_run domain f ss s y l h hy;
    ends_below = bottom_end domain f ss s l h;
    ends_above = top_end domain f ss s l h;
  };
  covered = l.covered;
  in_order = l.in_order;
}
