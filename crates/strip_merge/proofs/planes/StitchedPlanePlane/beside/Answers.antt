use Rattle.std.proofs.Common.{subst, IfOk}
use Rattle.plane_core.specs.Choice.{IsChoice}
use Rattle.plane_core.specs.Sides.{IsBeside}
use Rattle.stitch_walk.specs.Links.{Tiles}
use Rattle.strip_merge.specs.StripsOf.{strips_of}
use Rattle.strip_merge.proofs.planes.StitchedPlanePlane.beside.Goals as goal

pub returns : goal.returns
returns c =
    let P : Tiles → Type 0 = λ t. IfOk c.strips_beside.result (IsChoice (strips_of t.store) (λ s. IsBeside c.args.side c.args.t.area s.area)) in
    subst P c.self.view_is c.strips_beside.ensures
