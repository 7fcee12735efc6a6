use Rattle.std.proofs.Common.{◌≡◌, subst, List, IfOk}
use Rattle.std.proofs.lemmas.Result.{IfOk-weaker}
use Rattle.plane_core.specs.declared.strips.Strip.{Strip}
use Rattle.plane_core.specs.Choice.{IsChoice, Meets}
use Rattle.flat_plane.specs.Kept.{IsKept}
use Rattle.flat_plane.proofs.KeptFacts.{kept_now, meeting_covers, strips_now}
use Rattle.flat_plane.proofs.planes.FlatPlanePlane.strips_in.Goals as goal

pub returns-clause-found : goal.returns-clause-found
returns-clause-found c =
    let v = c.args.self.now in
    let e : c.as_slice.result.now ≡ v.strips = strips_now v c.self.inside.domain c.self.inside.strips c.as_slice.result.now c.self.view_is c.as_slice.ensures in
    let P : List Strip → Type 0 = λ l. IfOk c.strips_meeting.result (IsChoice l (λ s. Meets s.area c.args.area)) in
    subst P e c.strips_meeting.ensures

pub returns-clause-covered : goal.returns-clause-covered
returns-clause-covered c =
    let v = c.args.self.now in
    let is : IsKept v.domain v.strips = kept_now v c.self.inside.domain c.self.inside.strips c.self.invariant c.self.view_is in
    let e : c.as_slice.result.now ≡ v.strips = strips_now v c.self.inside.domain c.self.inside.strips c.as_slice.result.now c.self.view_is c.as_slice.ensures in
    let P : List Strip → Type 0 = λ l. IfOk c.strips_meeting.result (IsChoice l (λ s. Meets s.area c.args.area)) in
    IfOk-weaker c.strips_meeting.result _ _ (λ found choice. meeting_covers v.domain v.strips found c.args.area is c.requires choice) (subst P e c.strips_meeting.ensures)
