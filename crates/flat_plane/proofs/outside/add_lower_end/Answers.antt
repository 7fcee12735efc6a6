use Rattle.std.proofs.Common.{ℤ, sym, subst, ap, List, arith}
use Rattle.std.proofs.lemmas.Int.{ints}
use Rattle.std.proofs.lemmas.Result.{IfOk-weaker}
use Rattle.geo_rect.specs.declared.shapes.Interval.{Interval}
use Rattle.geo_rect.specs.Plane.{rows}
use Rattle.plane_core.specs.declared.strips.Strip.{Strip}
use Rattle.plane_core.specs.Labels.{label_of}
use Rattle.flat_plane.specs.Draft.{AreApart, IsRunInEachRow}
use Rattle.flat_plane.specs.Painting.{IsDraftOf, IsPartBefore, new_labels}
use Rattle.flat_plane.proofs.PaintedRows.{lower_has, lower_runs, repainted}
use Rattle.flat_plane.proofs.outside.add_lower_end.Goals as goal

pub returns-then-strip-brush-clause-adds : goal.returns-then-strip-brush-clause-adds
returns-then-strip-brush-clause-adds c p h off = let a = h.up.from in let b = h.up.to in absurd (omega (arith, ints))

pub part_before-rows-requires : goal.part_before-rows-requires
part_before-rows-requires c =
    let end : Interval → ℤ = λ i. i.low in
    let a = ap end c.rows.ensures in let b = ap end c.rows-2.ensures in omega (arith, ints)

pub add-requires-clause-apart : goal.add-requires-clause-apart
add-requires-clause-apart c = let P : List Strip → Type 0 = λ l. AreApart l in subst P (sym c.as_slice.ensures) c.requires.draft.apart

pub returns-clause-draft : goal.returns-clause-draft
returns-clause-draft c =
    let strips : List Strip = c.args.strips.now in
    let brush = c.args.brush in
    let P : List Strip → Type 0 = λ l. IsDraftOf strips brush l in
    let on_slice : IsDraftOf strips brush c.as_slice.result.now = subst P (sym c.as_slice.ensures) c.requires.draft in
    let R : Interval → Interval → Type 0 = λ i j. IsPartBefore i j c.part_before-rows.result in
    let Q1 : Interval → Type 0 = λ i. R i c.rows-2.result in
    let Q2 : Interval → Type 0 = λ j. R (rows c.args.strip.area) j in
    let part : IsPartBefore (rows c.args.strip.area) (rows brush.area) c.part_before-rows.result =
    subst Q2 c.rows-2.ensures (subst Q1 c.rows.ensures c.part_before-rows.ensures) in
    let runs : IsRunInEachRow brush.domain (new_labels strips brush) c.with_rows.result =
    lower_runs brush.domain brush.area brush.label (label_of strips) (new_labels strips brush) c.args.strip c.with_rows.result c.part_before-rows.result
    (repainted brush.area brush.label (label_of strips)) (c.requires.can_paint.plane.each c.args.strip c.requires.listed) part c.with_rows.ensures in
    IfOk-weaker c.add.result _ _ (λ new k. k brush.domain (new_labels strips brush) on_slice runs) c.add.ensures.draft

pub returns-clause-adds : goal.returns-clause-adds
returns-clause-adds c =
    let brush = c.args.brush in
    let R : Interval → Interval → Type 0 = λ i j. IsPartBefore i j c.part_before-rows.result in
    let Q1 : Interval → Type 0 = λ i. R i c.rows-2.result in
    let Q2 : Interval → Type 0 = λ j. R (rows c.args.strip.area) j in
    let part : IsPartBefore (rows c.args.strip.area) (rows brush.area) c.part_before-rows.result =
    subst Q2 c.rows-2.ensures (subst Q1 c.rows.ensures c.part_before-rows.ensures) in
    IfOk-weaker c.add.result _ _ (λ new k p h off. k p (lower_has brush.area c.args.strip c.with_rows.result c.part_before-rows.result p part c.with_rows.ensures h off)) c.add.ensures.adds
