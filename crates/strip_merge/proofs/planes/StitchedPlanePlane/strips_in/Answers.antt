use Rattle.std.proofs.Common.{subst, IfOk}
use Rattle.std.proofs.lemmas.Result.{IfOk-weaker}
use Rattle.plane_core.specs.Choice.{IsChoice, Meets}
use Rattle.stitch_walk.specs.Links.{Tiles}
use Rattle.strip_merge.specs.StripsOf.{strips_of}
use Rattle.strip_merge.proofs.Forming.{meeting_covers, stitched_now}
use Rattle.strip_merge.proofs.planes.StitchedPlanePlane.strips_in.Goals as goal

pub returns-clause-found : goal.returns-clause-found
returns-clause-found c =
    let P : Tiles → Type 0 = λ t. IfOk c.strips_meeting.result (IsChoice (strips_of t.store) (λ s. Meets s.area c.args.area)) in
    subst P c.self.view_is c.strips_meeting.ensures

pub returns-clause-covered : goal.returns-clause-covered
returns-clause-covered c =
    let v = c.args.self.now in
    let P : Tiles → Type 0 = λ t. IfOk c.strips_meeting.result (IsChoice (strips_of t.store) (λ s. Meets s.area c.args.area)) in
    IfOk-weaker c.strips_meeting.result _ _
    (λ found choice. meeting_covers v.store v.domain c.args.area found (stitched_now c.self.inside.tiling v c.self.invariant c.self.view_is) c.requires choice)
    (subst P c.self.view_is c.strips_meeting.ensures)
