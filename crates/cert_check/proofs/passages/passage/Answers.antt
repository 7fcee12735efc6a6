use Rattle.std.proofs.Common.{◌≡◌, ap, subst, sym}
use Rattle.geo_rect.specs.declared.ids.Label.{Label}
use Rattle.geo_rect.specs.declared.shapes.Rect.{Rect}
use Rattle.geo_rect.specs.Plane.{HasPoint}
use Rattle.board_model.specs.Labels.{Admits}
use Rattle.plane_core.specs.declared.strips.Strip.{Strip}
use Rattle.plane_core.specs.Labels.{label_of}
use Rattle.plane_core.proofs.Alike.{strip_inside, strips_meet}
use Rattle.cert_check.proofs.Cases.{not_both}
use Rattle.cert_check.proofs.passages.passage.Goals as goal

pub returns-then-not-has_point-clause-none : goal.returns-then-not-has_point-clause-none
returns-then-not-has_point-clause-none g c = λ t s h.
    let strips = g.P.Plane.strips c.args.plane.now in
    let a : Strip = record { area = t; label = s.label } in
    let inside = strip_inside (g.P.Plane.region c.args.plane.now) (label_of strips) a c.args.p (c.domain.ensures.canonical.each a s.listed) h in
    let P : Rect → Type 0 = λ r. HasPoint r c.args.p in
    not_both (c.has_point.ensures.1 (subst P (sym c.domain.ensures.domain) inside)) c.if-not-has_point.true

pub returns-then-not-admits-clause-none : goal.returns-then-not-admits-clause-none
returns-then-not-admits-clause-none g c = λ t s h.
    let strips = g.P.Plane.strips c.args.plane.now in
    let a : Strip = record { area = t; label = s.label } in
    let own = c.strip_at-strip in
    let e : a ≡ own.result = strips_meet (g.P.Plane.region c.args.plane.now) (label_of strips) a own.result c.args.p (own.ensures.canonical.each a s.listed) (own.ensures.canonical.each own.result own.ensures.listed) h own.ensures.has_point in
    let P : Label → Type 0 = λ m. Admits m c.args.net in
    not_both (c.admits.ensures.1 (subst P (ap (λ (x : Strip). x.label) e) s.admits)) c.if-not-admits.true
