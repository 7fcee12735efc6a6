-- A draft that holds each point of the domain has its strips.
use Rattle.std.proofs.Common.{ℤ, pos, ◌-ℤ◌, ◌+ℤ◌, ◌≤ℤ◌, sym, subst, inl, inr, List, Contains, arith}
use Rattle.std.proofs.lemmas.Int.{ints}
use Rattle.geo_rect.specs.declared.ids.Label.{Label}
use Rattle.geo_rect.specs.declared.shapes.Point.{Point}
use Rattle.geo_rect.specs.declared.shapes.Rect.{Rect}
use Rattle.geo_rect.specs.Axis.{HasNumber}
use Rattle.geo_rect.specs.Plane.{columns, rows, HasPoint}
use Rattle.plane_core.specs.declared.strips.Strip.{Strip}
use Rattle.plane_core.specs.Strips.{AreStrips, IsHeld, IsRunInRow}
use Rattle.plane_core.proofs.Alike.{IsAlike, low_number, runs_meet}
use Rattle.plane_core.proofs.Runs.{within_has}
use Rattle.flat_plane.specs.declared.brushes.Brush.{Brush}
use Rattle.flat_plane.specs.Draft.{IsDraft, Joins}
use Rattle.flat_plane.specs.Painting.{CanPaint, HoldsOutside, HoldsRows, HoldsUntouched, IsDraftOf, new_labels}
use Rattle.flat_plane.proofs.Decided.{affected_decided, number_decided}
use Rattle.flat_plane.proofs.Joining.{joins_from_alike}

-- where s has a run in the row y, a strip of the draft has it; if the rows touch, the strip is s
run_is_own : (domain : Rect) (f : Point → Label) (ss : List Strip) (s : Strip) (y : ℤ) → IsDraft domain f ss → ((p : Point) → HasPoint domain p → IsHeld ss p) → Contains ss s → IsRunInRow domain f s y → s.area.y0 ≤ℤ (y +ℤ pos 1) → y ≤ℤ (s.area.y1 +ℤ pos 1) → HasNumber (rows s.area) y
run_is_own domain f ss s y d covered hs r above below =
    let p : Point = record { x = s.area.x0; y = y } in
    let first : HasNumber (columns s.area) s.area.x0 = low_number (columns s.area) in
    let h : IsHeld ss p = covered p (record { across = within_has (columns s.area) (columns domain) s.area.x0 r.run.inside first; up = r.in_domain }) in
    let t : Strip = h.by in
    let a : IsAlike s t = runs_meet domain f s t p r (d.runs t h.is_listed y h.has_point.up) first h.has_point.across in
    let t1 = h.has_point.up.from in let t2 = h.has_point.up.to in
    let j : Joins s t = joins_from_alike s t a (record { first_reaches = omega (arith, ints); second_reaches = omega (arith, ints) }) in
    let P : Strip → Type 0 = λ u. HasNumber (rows u.area) y in
    subst P (sym (d.apart s t hs h.is_listed j)) h.has_point.up

pub strips_from_draft : (domain : Rect) (f : Point → Label) (ss : List Strip) → IsDraft domain f ss → ((p : Point) → HasPoint domain p → IsHeld ss p) → AreStrips domain f ss
strips_from_draft domain f ss d covered = record {
  each = λ s hs. let o = s.area.y_ordered in record {
    in_each_row = d.runs s hs;
    ends_below = λ r.
        let own = run_is_own domain f ss s (s.area.y0 -ℤ pos 1) d covered hs r (omega (arith, ints)) (omega (arith, ints)) in
        let a = own.from in omega (arith, ints);
    ends_above = λ r.
        let own = run_is_own domain f ss s (s.area.y1 +ℤ pos 1) d covered hs r (omega (arith, ints)) (omega (arith, ints)) in
        let a = own.to in omega (arith, ints);
  };
  covered = covered;
  in_order = d.in_order;
}

pub all_painted : (strips : List Strip) (brush : Brush) (new : List Strip) → CanPaint strips brush → IsDraftOf strips brush new → HoldsUntouched strips brush new → HoldsOutside strips brush new → HoldsRows brush.domain (rows brush.area) new → AreStrips brush.domain (new_labels strips brush) new
all_painted strips brush new can d untouched outside in_rows =
    strips_from_draft brush.domain (new_labels strips brush) new d (λ p inside.
    let h : IsHeld strips p = can.plane.covered p inside in
    elim (number_decided (rows brush.area) p.y) [
      | inl hy ↦ in_rows p inside hy
      | inr n ↦ elim (affected_decided brush.area h.by.area) [
        | inl a ↦ outside h.by h.is_listed a p h.has_point n
        | inr m ↦ untouched h.by h.is_listed m p h.has_point
      ]
    ])
