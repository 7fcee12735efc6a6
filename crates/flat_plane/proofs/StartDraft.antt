-- The draft that painting starts from.
use Rattle.std.proofs.Common.{ℕ, ◌≤◌, sym, subst, List, length, take, arith}
use Rattle.std.proofs.lemmas.Int.{ints, by_lt_z}
use Rattle.std.proofs.lemmas.List.{take_all}
use Rattle.geo_rect.specs.declared.ids.Label.{Label}
use Rattle.geo_rect.specs.declared.shapes.Point.{Point}
use Rattle.geo_rect.specs.declared.shapes.Rect.{Rect}
use Rattle.geo_rect.specs.Plane.{columns, rows}
use Rattle.plane_core.specs.declared.strips.Strip.{Strip}
use Rattle.plane_core.specs.Choice.{IsChoice}
use Rattle.plane_core.specs.LocalForm.{HasLocalForm}
use Rattle.plane_core.specs.Labels.{label_of, painted}
use Rattle.plane_core.specs.Sides.{HaveCommon}
use Rattle.plane_core.specs.Strips.{AreStrips}
use Rattle.plane_core.proofs.Alike.{low_number, strips_meet}
use Rattle.plane_core.proofs.Local.{local_from_strips}
use Rattle.plane_core.proofs.Sharing.{common_from_ends}
use Rattle.flat_plane.specs.declared.brushes.Brush.{Brush}
use Rattle.flat_plane.specs.Draft.{AreApart, IsAffected}
use Rattle.flat_plane.specs.Painting.{CanPaint, HoldsUntouched, IsDraftOf}
use Rattle.flat_plane.proofs.PaintedRows.{repainted, untouched_runs}

pub choice_end : (xs found : List Strip) (W : Strip → Type 0) (i : ℕ) → length xs ≤ i → IsChoice (take i xs) W found → IsChoice xs W found
choice_end xs found W i past c = let P : List Strip → Type 0 = λ l. IsChoice l W found in subst P (take_all i xs past) c

-- the strips of a labelled domain cannot be joined
pub strips_apart : (domain : Rect) (f : Point → Label) (ss : List Strip) → AreStrips domain f ss → AreApart ss
strips_apart domain f ss are s t hs ht j =
    let l : HasLocalForm domain f ss = local_from_strips domain f ss are in
    let t1 = j.rows_touch.first_reaches in let t2 = j.rows_touch.second_reaches in
    let cl = j.same_columns.left in let cr = j.same_columns.right in let o = s.area.x_ordered in
    by_lt_z s.area.y1 t.area.y0
    (λ below. absurd (l.no_stack_defect s t hs ht (record { same_label = j.same_label; same_columns = j.same_columns; touch = omega (arith, ints) })))
    (λ p. by_lt_z t.area.y1 s.area.y0
    (λ above. absurd (l.no_stack_defect t s ht hs (record { same_label = sym j.same_label; same_columns = record { left = sym cl; right = sym cr }; touch = omega (arith, ints) })))
    (λ q.
    let c : HaveCommon (rows s.area) (rows t.area) = common_from_ends (rows s.area) (rows t.area) q p in
    let at : Point = record { x = s.area.x0; y = c.number } in
    strips_meet domain f s t at (are.each s hs) (are.each t ht)
    (record { across = low_number (columns s.area); up = c.in_first })
    (record { across = record { from = omega (arith, ints); to = omega (arith, ints) }; up = c.in_second })))

pub untouched_draft : (strips found : List Strip) (brush : Brush) → CanPaint strips brush → IsChoice strips (λ s. ¬ IsAffected brush.area s.area) found → IsDraftOf strips brush found
untouched_draft strips found brush can c = record {
  runs = λ s h.
      untouched_runs brush.domain brush.area brush.label (label_of strips) (painted (label_of strips) brush.area brush.label) s
      (repainted brush.area brush.label (label_of strips)) (c.wanted s h) (can.plane.each s (c.listed s h));
  apart = λ s t hs ht j. strips_apart brush.domain (label_of strips) strips can.plane s t (c.listed s hs) (c.listed t ht) j;
  in_order = c.in_order;
}

pub untouched_held : (strips found : List Strip) (brush : Brush) → IsChoice strips (λ s. ¬ IsAffected brush.area s.area) found → HoldsUntouched strips brush found
untouched_held strips found brush c s hs n p hp = record { by = s; is_listed = c.complete s hs n; has_point = hp }
