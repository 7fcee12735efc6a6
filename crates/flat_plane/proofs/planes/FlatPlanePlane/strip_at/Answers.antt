use Rattle.std.proofs.Common.{◌≡◌, sym, subst, List, Contains}
use Rattle.plane_core.specs.declared.strips.Strip.{Strip}
use Rattle.plane_core.specs.Labels.{label_of}
use Rattle.plane_core.specs.Strips.{IsHeld}
use Rattle.plane_core.proofs.Local.{strip_labels}
use Rattle.flat_plane.specs.Kept.{IsKept}
use Rattle.flat_plane.proofs.KeptFacts.{kept_now, strips_now}
use Rattle.flat_plane.proofs.planes.FlatPlanePlane.strip_at.Goals as goal

pub find-requires : goal.find-requires
find-requires c =
    let v = c.args.self.now in
    let is : IsKept v.domain v.strips = kept_now v c.self.inside.domain c.self.inside.strips c.self.invariant c.self.view_is in
    let e : c.as_slice.result.now ≡ v.strips = strips_now v c.self.inside.domain c.self.inside.strips c.as_slice.result.now c.self.view_is c.as_slice.ensures in
    let P : List Strip → Type 0 = λ l. IsHeld l c.args.p in
    subst P (sym e) (is.canonical.covered c.args.p c.requires)

pub returns-clause-label : goal.returns-clause-label
returns-clause-label c =
    let v = c.args.self.now in
    let is : IsKept v.domain v.strips = kept_now v c.self.inside.domain c.self.inside.strips c.self.invariant c.self.view_is in
    let e : c.as_slice.result.now ≡ v.strips = strips_now v c.self.inside.domain c.self.inside.strips c.as_slice.result.now c.self.view_is c.as_slice.ensures in
    let P : List Strip → Type 0 = λ l. Contains l c.find.result in
    strip_labels v.domain (label_of v.strips) c.find.result (is.canonical.each c.find.result (subst P e c.find.ensures.listed)) c.args.p c.find.ensures.has_point
