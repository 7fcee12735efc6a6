use Rattle.std.proofs.Common.{sym, subst, List}
use Rattle.geo_rect.specs.Plane.{HasPoint}
use Rattle.plane_core.specs.declared.strips.Strip.{Strip}
use Rattle.flat_plane.specs.Draft.{AreApart, IsRunInEachRow, KeepsPoints}
use Rattle.flat_plane.specs.Painting.{IsDraftOf, new_labels}
use Rattle.flat_plane.proofs.PieceRuns.{middle_runs}
use Rattle.flat_plane.proofs.pieces.add_middle.Goals as goal

pub add-requires-clause-apart : goal.add-requires-clause-apart
add-requires-clause-apart c = let P : List Strip → Type 0 = λ l. AreApart l in subst P (sym c.as_slice.ensures) c.requires.draft.apart

pub returns-clause-draft : goal.returns-clause-draft
returns-clause-draft c =
    let strips : List Strip = c.args.strips.now in
    let brush = c.args.brush in
    let D : List Strip → Type 0 = λ l. IsDraftOf strips brush l in
    let runs : IsRunInEachRow brush.domain (new_labels strips brush) c.strip_of-piece.result =
    middle_runs strips brush c.args.band c.strip_of-piece.result c.requires.can_paint c.requires.band c.strip_of-piece.ensures in
    c.in_ok-new.ensures.draft brush.domain (new_labels strips brush) (subst D (sym c.as_slice.ensures) c.requires.draft) runs

pub returns-clause-keeps : goal.returns-clause-keeps
returns-clause-keeps c = let P : List Strip → Type 0 = λ l. KeepsPoints l c.in_ok-new.new in subst P c.as_slice.ensures c.in_ok-new.ensures.keeps

pub returns-clause-adds : goal.returns-clause-adds
returns-clause-adds c p hx hy =
    let P : Strip → Type 0 = λ t. HasPoint t.area p in
    c.in_ok-new.ensures.adds p (subst P (sym c.strip_of-piece.ensures) (record { across = hx; up = hy }))
