use Rattle.std.proofs.Common.{◌≡◌, List, ◌∙◌, sym, subst}
use Rattle.std.proofs.lemmas.Result.{IfOk-weaker}
use Rattle.geo_rect.specs.declared.shapes.Rect.{Rect}
use Rattle.plane_core.specs.declared.strips.Strip.{Strip}
use Rattle.plane_core.specs.Labels.{label_of, IsPlane}
use Rattle.plane_core.proofs.Whole.{whole_choice}
use Rattle.session_core.proofs.looks.strips_of.Goals as goal

pub returns : goal.returns
returns g c =
    let all : List Strip = g.P.Plane.strips c.args.plane.now in
    let canonical : IsPlane c.domain.result all = subst (λ (r : Rect). IsPlane r all) (sym c.domain.ensures.domain) c.domain.ensures.canonical in
    let whole = whole_choice c.domain.result (label_of all) all c.in_ok-found.found canonical c.in_ok-found.ensures.found in
    IfOk-weaker c.from_slice.result (λ (strips : List Strip). strips ≡ c.as_slice.result.now) (λ (strips : List Strip). strips ≡ all)
    (λ strips e. e ∙ c.as_slice.ensures ∙ whole)
    c.from_slice.ensures
