use Rattle.std.proofs.Common.{ℤ, pos, ◌-ℤ◌, ◌≡◌, true, false, sym, subst, List, Option}
use Rattle.geo_rect.specs.declared.shapes.Interval.{Interval}
use Rattle.geo_rect.specs.Plane.{columns}
use Rattle.plane_core.specs.declared.strips.Strip.{Strip}
use Rattle.flat_plane.specs.Draft.{AreApart, IsRunInEachRow, KeepsPoints}
use Rattle.flat_plane.specs.Painting.{HoldsLeft, IsBeyond, IsDraftOf, IsListedAt, IsPartBefore, new_labels}
use Rattle.flat_plane.proofs.PieceRuns.{left_has, left_runs}
use Rattle.flat_plane.proofs.pieces.add_left.Goals as goal

pub add-requires-clause-apart : goal.add-requires-clause-apart
add-requires-clause-apart c = let P : List Strip → Type 0 = λ l. AreApart l in subst P (sym c.as_slice.ensures) c.requires.draft.apart

pub returns-clause-draft : goal.returns-clause-draft
returns-clause-draft c =
    let strips : List Strip = c.args.strips.now in
    let brush = c.args.brush in
    let band = c.args.band in
    let strip : Strip = c.in-Some.strip in
    let x : ℤ = brush.area.x0 -ℤ pos 1 in
    let D : List Strip → Type 0 = λ l. IsDraftOf strips brush l in
    let on_slice : IsDraftOf strips brush c.as_slice.result.now = subst D (sym c.as_slice.ensures) c.requires.draft in
    let B : Option Strip → Type 0 = λ o. IsBeyond strips brush.domain x band.rows o in
    let at : IsListedAt strips x band.rows strip = subst B c.in-Some.is c.requires.band.left in
    let Q1 : Interval → Type 0 = λ i. IsPartBefore i c.columns-2.result c.part_before-across.result in
    let Q2 : Interval → Type 0 = λ j. IsPartBefore (columns strip.area) j c.part_before-across.result in
    let part : IsPartBefore (columns strip.area) (columns brush.area) c.part_before-across.result =
    subst Q2 c.columns-2.ensures (subst Q1 c.columns.ensures c.part_before-across.ensures) in
    let other : ¬ (strip.label ≡ brush.label) =
    λ e. (let yes' : c.are_same_label.result ≡ true = c.are_same_label.ensures.1 e in let no' : c.are_same_label.result ≡ false = c.if-are_same_label.false in cc) in
    let runs : IsRunInEachRow brush.domain (new_labels strips brush) c.strip_of-piece.result =
    left_runs strips brush band.rows c.part_before-across.result strip c.strip_of-piece.result c.requires.can_paint c.requires.band.rows_inside at other part c.strip_of-piece.ensures in
    c.in_ok-new.ensures.draft brush.domain (new_labels strips brush) on_slice runs

pub returns-clause-keeps : goal.returns-clause-keeps
returns-clause-keeps c = let P : List Strip → Type 0 = λ l. KeepsPoints l c.in_ok-new.new in subst P c.as_slice.ensures c.in_ok-new.ensures.keeps

pub returns-clause-adds : goal.returns-clause-adds
returns-clause-adds c =
    let brush = c.args.brush in
    let strip : Strip = c.in-Some.strip in
    let Q1 : Interval → Type 0 = λ i. IsPartBefore i c.columns-2.result c.part_before-across.result in
    let Q2 : Interval → Type 0 = λ j. IsPartBefore (columns strip.area) j c.part_before-across.result in
    let part : IsPartBefore (columns strip.area) (columns brush.area) c.part_before-across.result =
    subst Q2 c.columns-2.ensures (subst Q1 c.columns.ensures c.part_before-across.ensures) in
    let H : Option Strip → Type 0 = λ o. HoldsLeft brush c.args.band.rows o c.in_ok-new.new in
    subst H (sym c.in-Some.is) (λ n p hp off hy.
    c.in_ok-new.ensures.adds p
    (left_has brush c.args.band.rows c.part_before-across.result strip c.strip_of-piece.result p part c.strip_of-piece.ensures hp off hy))
