-- Strips of the same columns and label, and what shares a point with a strip.
use Rattle.std.proofs.Common.{ℤ, pos, ◌-ℤ◌, ◌+ℤ◌, ◌≤ℤ◌, ◌≡◌, sym, subst, ap, ◌∙◌, arith}
use Rattle.std.proofs.lemmas.Int.{ints, by_lt_z}
use Rattle.geo_rect.specs.declared.ids.Label.{Label}
use Rattle.geo_rect.specs.declared.shapes.Interval.{Interval}
use Rattle.geo_rect.specs.declared.shapes.Point.{Point}
use Rattle.geo_rect.specs.declared.shapes.Rect.{Rect}
use Rattle.geo_rect.specs.Axis.{HasNumber}
use Rattle.geo_rect.specs.Plane.{columns, rows, HasPoint}
use Rattle.geo_rect.proofs.Same.{same_interval, same_rect}
use Rattle.plane_core.specs.declared.strips.Strip.{Strip}
use Rattle.plane_core.specs.LocalForm.{HaveSameColumns}
use Rattle.plane_core.specs.Strips.{IsRun, IsRunInRow, IsStrip}
use Rattle.plane_core.proofs.Runs.{within_has, run_labels, run_starts, run_ends}

-- s and t have the same columns and the same label
pub record IsAlike (s t : Strip) : Type 0 where
  pub same_label : s.label ≡ t.label
  pub same_columns : HaveSameColumns s.area t.area

pub alike_back : (s t : Strip) → IsAlike s t → IsAlike t s
alike_back s t a = record {
  same_label = sym a.same_label;
  same_columns = record { left = sym a.same_columns.left; right = sym a.same_columns.right };
}

pub alike_on : (s t u : Strip) → IsAlike s t → IsAlike t u → IsAlike s u
alike_on s t u a b = record {
  same_label = a.same_label ∙ b.same_label;
  same_columns = record { left = a.same_columns.left ∙ b.same_columns.left; right = a.same_columns.right ∙ b.same_columns.right };
}

pub columns_alike : (s t : Strip) → IsAlike s t → columns s.area ≡ columns t.area
columns_alike s t a = same_interval (columns s.area) (columns t.area) a.same_columns.left a.same_columns.right

-- a strip is determined by its area and its label
pub same_parts : (s t : Strip) → s.area ≡ t.area → s.label ≡ t.label → s ≡ t
same_parts s t a l =
    let F : Rect → Strip = λ r. record { area = r; label = s.label } in
    let G : Label → Strip = λ m. record { area = t.area; label = m } in
    ap F a ∙ ap G l

-- alike strips are runs in the same rows
pub run_alike : (domain : Rect) (f : Point → Label) (s t : Strip) (y : ℤ) → IsAlike s t → IsRunInRow domain f s y → IsRunInRow domain f t y
run_alike domain f s t y a r = record {
  in_domain = r.in_domain;
  run =
      let at : ℤ → Label = λ x. f (record { x = x; y = y }) in
      let P : Label → Type 0 = λ m. IsRun (columns domain) at (columns s.area) m in
      let Q : Interval → Type 0 = λ i. IsRun (columns domain) at i t.label in
      subst Q (columns_alike s t a) (subst P a.same_label r.run);
}

-- two runs of a row that share a point are alike
pub runs_meet : (domain : Rect) (f : Point → Label) (s t : Strip) (p : Point) → IsRunInRow domain f s p.y → IsRunInRow domain f t p.y → HasNumber (columns s.area) p.x → HasNumber (columns t.area) p.x → IsAlike s t
runs_meet domain f s t p rs rt hs ht =
    let at : ℤ → Label = λ x. f (record { x = x; y = p.y }) in
    let labels : s.label ≡ t.label = run_labels (columns domain) at (columns s.area) (columns t.area) s.label t.label p.x rs.run rt.run hs ht in
    let P : Label → Type 0 = λ m. IsRun (columns domain) at (columns t.area) m in
    let rt' : IsRun (columns domain) at (columns t.area) s.label = subst P (sym labels) rt.run in
    record {
      same_label = labels;
      same_columns = record {
        left = run_starts (columns domain) at (columns s.area) (columns t.area) s.label p.x rs.run rt' hs ht;
        right = run_ends (columns domain) at (columns s.area) (columns t.area) s.label p.x rs.run rt' hs ht;
      };
    }

-- the lower left corner
abbrev pub corner : Strip → Point
corner s = record { x = s.area.x0; y = s.area.y0 }

pub low_number : (i : Interval) → HasNumber i i.low
low_number i = record { from = omega (arith, ints); to = i.ordered }

pub high_number : (i : Interval) → HasNumber i i.high
high_number i = record { from = i.ordered; to = omega (arith, ints) }

pub corner_point : (s : Strip) → HasPoint s.area (corner s)
corner_point s = record { across = low_number (columns s.area); up = low_number (rows s.area) }

-- the points of a strip lie in the domain
pub strip_inside : (domain : Rect) (f : Point → Label) (s : Strip) (p : Point) → IsStrip domain f s → HasPoint s.area p → HasPoint domain p
strip_inside domain f s p i h =
    let r : IsRunInRow domain f s p.y = i.in_each_row p.y h.up in
    record { across = within_has (columns s.area) (columns domain) p.x r.run.inside h.across; up = r.in_domain }

starts_no_lower : (domain : Rect) (f : Point → Label) (s t : Strip) (p : Point) → IsAlike s t → IsStrip domain f s → IsStrip domain f t → HasPoint s.area p → HasPoint t.area p → t.area.y0 ≤ℤ s.area.y0
starts_no_lower domain f s t p a is it hs ht =
    by_lt_z s.area.y0 t.area.y0
    (λ less.
    let below : HasNumber (rows s.area) (t.area.y0 -ℤ pos 1) =
    (let q = ht.up.from in let r = hs.up.to in record { from = omega (arith, ints); to = omega (arith, ints) }) in
    absurd (it.ends_below (run_alike domain f s t _ a (is.in_each_row _ below))))
    (λ h. h)

ends_no_higher : (domain : Rect) (f : Point → Label) (s t : Strip) (p : Point) → IsAlike s t → IsStrip domain f s → IsStrip domain f t → HasPoint s.area p → HasPoint t.area p → s.area.y1 ≤ℤ t.area.y1
ends_no_higher domain f s t p a is it hs ht =
    by_lt_z t.area.y1 s.area.y1
    (λ less.
    let above : HasNumber (rows s.area) (t.area.y1 +ℤ pos 1) =
    (let q = ht.up.to in let r = hs.up.from in record { from = omega (arith, ints); to = omega (arith, ints) }) in
    absurd (it.ends_above (run_alike domain f s t _ a (is.in_each_row _ above))))
    (λ h. h)

same_rows : (domain : Rect) (f : Point → Label) (s t : Strip) (p : Point) → IsAlike s t → IsStrip domain f s → IsStrip domain f t → HasPoint s.area p → HasPoint t.area p → rows s.area ≡ rows t.area
same_rows domain f s t p a is it hs ht =
    let b : IsAlike t s = alike_back s t a in
    let p1 = starts_no_lower domain f s t p a is it hs ht in
    let p2 = starts_no_lower domain f t s p b it is ht hs in
    let p3 = ends_no_higher domain f s t p a is it hs ht in
    let p4 = ends_no_higher domain f t s p b it is ht hs in
    same_interval (rows s.area) (rows t.area) (omega (arith, ints)) (omega (arith, ints))

-- two strips of a labelled domain that share a point are one
pub strips_meet : (domain : Rect) (f : Point → Label) (s t : Strip) (p : Point) → IsStrip domain f s → IsStrip domain f t → HasPoint s.area p → HasPoint t.area p → s ≡ t
strips_meet domain f s t p is it hs ht =
    let a : IsAlike s t = runs_meet domain f s t p (is.in_each_row p.y hs.up) (it.in_each_row p.y ht.up) hs.across ht.across in
    same_parts s t (same_rect s.area t.area (columns_alike s t a) (same_rows domain f s t p a is it hs ht)) a.same_label
