-- The pieces of a band are maximal runs of the painted labels in each of its rows.
use Rattle.std.proofs.Common.{ℤ, pos, ◌-ℤ◌, ◌+ℤ◌, ◌<ℤ◌, ◌≡◌, sym, subst, inl, inr, List, Option, Some, None, arith}
use Rattle.std.proofs.lemmas.Int.{ints, clamps}
use Rattle.geo_rect.specs.declared.ids.Label.{Label}
use Rattle.geo_rect.specs.declared.shapes.Interval.{Interval}
use Rattle.geo_rect.specs.declared.shapes.Point.{Point}
use Rattle.geo_rect.specs.Axis.{HasNumber, LiesWithin}
use Rattle.geo_rect.specs.Plane.{columns, rows, rect_of, HasPoint}
use Rattle.plane_core.specs.declared.strips.Strip.{Strip}
use Rattle.plane_core.specs.Labels.{label_of}
use Rattle.plane_core.specs.Strips.{IsRunInRow}
use Rattle.plane_core.proofs.Runs.{within_has}
use Rattle.flat_plane.specs.declared.brushes.Band.{Band}
use Rattle.flat_plane.specs.declared.brushes.Brush.{Brush}
use Rattle.flat_plane.specs.Draft.{IsRunInEachRow}
use Rattle.flat_plane.specs.Painting.{CanPaint, HoldsLeft, HoldsRight, IsBand, IsBeyond, IsLeftEnd, IsListedAt, IsPartAfter, IsPartBefore, IsRightEnd, new_labels}
use Rattle.flat_plane.proofs.Decided.{label_decided}
use Rattle.flat_plane.proofs.Edges.{IsLeftEdge, IsPaintedRow, IsRightEdge, left_edge_apart, left_edge_joined, left_edge_none, left_part, middle_run, right_edge_apart, right_edge_joined, right_edge_none, right_part}
use Rattle.flat_plane.proofs.PaintedRows.{IsRepainted, repainted}

-- the labels of a row
abbrev pub row_of : (Point → Label) → ℤ → ℤ → Label
row_of f y x = f (record { x = x; y = y })

-- the strip of these columns, rows and label
abbrev pub made_strip : Interval → Interval → Label → Strip
made_strip across up label = record { area = rect_of across up; label = label }

painted_row : (strips : List Strip) (brush : Brush) (y : ℤ) → HasNumber (rows brush.area) y → IsPaintedRow (columns brush.area) brush.label (row_of (label_of strips) y) (row_of (new_labels strips brush) y)
painted_row strips brush y hy =
    let is : IsRepainted brush.area brush.label (label_of strips) (new_labels strips brush) = repainted brush.area brush.label (label_of strips) in
    record {
      within = λ x h. is.within (record { x = x; y = y }) (record { across = h; up = hy });
      elsewhere = λ x n. is.elsewhere (record { x = x; y = y }) (λ h. n h.across);
    }

-- a strip beside the area has its run in each row of the band
beside_run : (strips : List Strip) (brush : Brush) (x y : ℤ) (band : Interval) (s : Strip) → CanPaint strips brush → IsListedAt strips x band s → HasNumber band y → IsRunInRow brush.domain (label_of strips) s y
beside_run strips brush x y band s can at hy = (can.plane.each s at.listed).in_each_row y (within_has band (rows s.area) y at.rows_within hy)

pub left_runs : (strips : List Strip) (brush : Brush) (band part : Interval) (s e : Strip) → CanPaint strips brush → LiesWithin band (rows brush.area) → IsListedAt strips (brush.area.x0 -ℤ pos 1) band s → ¬ (s.label ≡ brush.label) → IsPartBefore (columns s.area) (columns brush.area) part → e ≡ made_strip part band s.label → IsRunInEachRow brush.domain (new_labels strips brush) e
left_runs strips brush band part s e can within at n is eq =
    let P : Strip → Type 0 = λ t. IsRunInEachRow brush.domain (new_labels strips brush) t in
    let c1 = at.column.from in let c2 = at.column.to in let l = is.low in let h = is.high in
    subst P (sym eq) (λ y hy.
    let r : IsRunInRow brush.domain (label_of strips) s y = beside_run strips brush (brush.area.x0 -ℤ pos 1) y band s can at hy in
    let row : IsPaintedRow (columns brush.area) brush.label (row_of (label_of strips) y) (row_of (new_labels strips brush) y) =
    painted_row strips brush y (within_has band (rows brush.area) y within hy) in
    record {
      in_domain = r.in_domain;
      run = left_part (columns brush.domain) (columns brush.area) (columns s.area) part brush.label s.label (row_of (label_of strips) y) (row_of (new_labels strips brush) y)
          row r.run at.column n is.low (omega (arith, ints, clamps));
    })

pub right_runs : (strips : List Strip) (brush : Brush) (band part : Interval) (s e : Strip) → CanPaint strips brush → LiesWithin band (rows brush.area) → IsListedAt strips (brush.area.x1 +ℤ pos 1) band s → ¬ (s.label ≡ brush.label) → IsPartAfter (columns s.area) (columns brush.area) part → e ≡ made_strip part band s.label → IsRunInEachRow brush.domain (new_labels strips brush) e
right_runs strips brush band part s e can within at n is eq =
    let P : Strip → Type 0 = λ t. IsRunInEachRow brush.domain (new_labels strips brush) t in
    let c1 = at.column.from in let c2 = at.column.to in let l = is.low in let h = is.high in
    subst P (sym eq) (λ y hy.
    let r : IsRunInRow brush.domain (label_of strips) s y = beside_run strips brush (brush.area.x1 +ℤ pos 1) y band s can at hy in
    let row : IsPaintedRow (columns brush.area) brush.label (row_of (label_of strips) y) (row_of (new_labels strips brush) y) =
    painted_row strips brush y (within_has band (rows brush.area) y within hy) in
    record {
      in_domain = r.in_domain;
      run = right_part (columns brush.domain) (columns brush.area) (columns s.area) part brush.label s.label (row_of (label_of strips) y) (row_of (new_labels strips brush) y)
          row r.run at.column n (omega (arith, ints, clamps)) is.high;
    })

left_edge : (strips : List Strip) (brush : Brush) (band : Interval) (y : ℤ) (o : Option Strip) (low : ℤ) → CanPaint strips brush → LiesWithin band (rows brush.area) → IsBeyond strips brush.domain (brush.area.x0 -ℤ pos 1) band o → IsLeftEnd brush.area.x0 brush.label o low → HasNumber band y → IsLeftEdge (columns brush.domain) (columns brush.area) brush.label (row_of (new_labels strips brush) y) low
left_edge strips brush band y None low can within at end hy =
    let f = row_of (label_of strips) y in let g = row_of (new_labels strips brush) y in
    let P : ℤ → Type 0 = λ v. IsLeftEdge (columns brush.domain) (columns brush.area) brush.label g v in
    subst P (sym end) (left_edge_none (columns brush.domain) (columns brush.area) brush.label f g can.inside.across at)
left_edge strips brush band y (Some s) low can within at end hy =
    let f = row_of (label_of strips) y in let g = row_of (new_labels strips brush) y in
    let P : ℤ → Type 0 = λ v. IsLeftEdge (columns brush.domain) (columns brush.area) brush.label g v in
    let r : IsRunInRow brush.domain (label_of strips) s y = beside_run strips brush (brush.area.x0 -ℤ pos 1) y band s can at hy in
    let row : IsPaintedRow (columns brush.area) brush.label f g = painted_row strips brush y (within_has band (rows brush.area) y within hy) in
    elim (label_decided s.label brush.label) [
      | inl e ↦ subst P (sym (end.0 e)) (left_edge_joined (columns brush.domain) (columns brush.area) (columns s.area) brush.label s.label f g row r.run at.column e)
      | inr n ↦ subst P (sym (end.1 n)) (left_edge_apart (columns brush.domain) (columns brush.area) (columns s.area) brush.label s.label f g row can.inside.across r.run at.column n)
    ]

right_edge : (strips : List Strip) (brush : Brush) (band : Interval) (y : ℤ) (o : Option Strip) (high : ℤ) → CanPaint strips brush → LiesWithin band (rows brush.area) → IsBeyond strips brush.domain (brush.area.x1 +ℤ pos 1) band o → IsRightEnd brush.area.x1 brush.label o high → HasNumber band y → IsRightEdge (columns brush.domain) (columns brush.area) brush.label (row_of (new_labels strips brush) y) high
right_edge strips brush band y None high can within at end hy =
    let f = row_of (label_of strips) y in let g = row_of (new_labels strips brush) y in
    let P : ℤ → Type 0 = λ v. IsRightEdge (columns brush.domain) (columns brush.area) brush.label g v in
    subst P (sym end) (right_edge_none (columns brush.domain) (columns brush.area) brush.label f g can.inside.across at)
right_edge strips brush band y (Some s) high can within at end hy =
    let f = row_of (label_of strips) y in let g = row_of (new_labels strips brush) y in
    let P : ℤ → Type 0 = λ v. IsRightEdge (columns brush.domain) (columns brush.area) brush.label g v in
    let r : IsRunInRow brush.domain (label_of strips) s y = beside_run strips brush (brush.area.x1 +ℤ pos 1) y band s can at hy in
    let row : IsPaintedRow (columns brush.area) brush.label f g = painted_row strips brush y (within_has band (rows brush.area) y within hy) in
    elim (label_decided s.label brush.label) [
      | inl e ↦ subst P (sym (end.0 e)) (right_edge_joined (columns brush.domain) (columns brush.area) (columns s.area) brush.label s.label f g row r.run at.column e)
      | inr n ↦ subst P (sym (end.1 n)) (right_edge_apart (columns brush.domain) (columns brush.area) (columns s.area) brush.label s.label f g row can.inside.across r.run at.column n)
    ]

pub middle_runs : (strips : List Strip) (brush : Brush) (band : Band) (e : Strip) → CanPaint strips brush → IsBand strips brush band → e ≡ made_strip band.across band.rows brush.label → IsRunInEachRow brush.domain (new_labels strips brush) e
middle_runs strips brush band e can is eq =
    let P : Strip → Type 0 = λ t. IsRunInEachRow brush.domain (new_labels strips brush) t in
    subst P (sym eq) (λ y hy.
    let ha : HasNumber (rows brush.area) y = within_has band.rows (rows brush.area) y is.rows_inside hy in
    let f = row_of (label_of strips) y in let g = row_of (new_labels strips brush) y in
    record {
      in_domain = within_has (rows brush.area) (rows brush.domain) y can.inside.up ha;
      run = middle_run (columns brush.domain) (columns brush.area) band.across brush.label f g (painted_row strips brush y ha)
          (left_edge strips brush band.rows y band.left band.across.low can is.rows_inside is.left is.left_end hy)
          (right_edge strips brush band.rows y band.right band.across.high can is.rows_inside is.right is.right_end hy);
    })

pub left_has : (brush : Brush) (band part : Interval) (s e : Strip) (p : Point) → IsPartBefore (columns s.area) (columns brush.area) part → e ≡ made_strip part band s.label → HasPoint s.area p → p.x <ℤ brush.area.x0 → HasNumber band p.y → HasPoint e.area p
left_has brush band part s e p is eq hp less hy =
    let l = is.low in let h = is.high in let a = hp.across.from in let b = hp.across.to in
    let P : Strip → Type 0 = λ t. HasPoint t.area p in
    subst P (sym eq) (record { across = record { from = omega (arith, ints, clamps); to = omega (arith, ints, clamps) }; up = hy })

pub right_has : (brush : Brush) (band part : Interval) (s e : Strip) (p : Point) → IsPartAfter (columns s.area) (columns brush.area) part → e ≡ made_strip part band s.label → HasPoint s.area p → brush.area.x1 <ℤ p.x → HasNumber band p.y → HasPoint e.area p
right_has brush band part s e p is eq hp more hy =
    let l = is.low in let h = is.high in let a = hp.across.from in let b = hp.across.to in
    let P : Strip → Type 0 = λ t. HasPoint t.area p in
    subst P (sym eq) (record { across = record { from = omega (arith, ints, clamps); to = omega (arith, ints, clamps) }; up = hy })

pub no_left : (brush : Brush) (band : Interval) (new : List Strip) (o : Option Strip) → o ≡ None → HoldsLeft brush band o new
no_left brush band new o e = let P : Option Strip → Type 0 = λ v. HoldsLeft brush band v new in subst P (sym e) tt

pub same_left : (brush : Brush) (band : Interval) (new : List Strip) (o : Option Strip) (s : Strip) → o ≡ Some s → s.label ≡ brush.label → HoldsLeft brush band o new
same_left brush band new o s e l = let P : Option Strip → Type 0 = λ v. HoldsLeft brush band v new in subst P (sym e) (λ n p a b d. absurd (n l))

pub no_right : (brush : Brush) (band : Interval) (new : List Strip) (o : Option Strip) → o ≡ None → HoldsRight brush band o new
no_right brush band new o e = let P : Option Strip → Type 0 = λ v. HoldsRight brush band v new in subst P (sym e) tt

pub same_right : (brush : Brush) (band : Interval) (new : List Strip) (o : Option Strip) (s : Strip) → o ≡ Some s → s.label ≡ brush.label → HoldsRight brush band o new
same_right brush band new o s e l = let P : Option Strip → Type 0 = λ v. HoldsRight brush band v new in subst P (sym e) (λ n p a b d. absurd (n l))
