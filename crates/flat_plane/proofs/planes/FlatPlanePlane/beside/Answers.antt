use Rattle.std.proofs.Common.{◌≡◌, subst, List, Contains, IfOk}
use Rattle.plane_core.specs.declared.strips.Strip.{Strip}
use Rattle.plane_core.specs.Choice.{IsChoice}
use Rattle.plane_core.specs.Sides.{IsBeside}
use Rattle.flat_plane.specs.Kept.{IsKept}
use Rattle.flat_plane.proofs.KeptFacts.{kept_now, small_strip, strips_now}
use Rattle.flat_plane.proofs.planes.FlatPlanePlane.beside.Goals as goal

pub strips_beside-requires-clause-small : goal.strips_beside-requires-clause-small
strips_beside-requires-clause-small c s h =
    let v = c.args.self.now in
    let is : IsKept v.domain v.strips = kept_now v c.self.inside.domain c.self.inside.strips c.self.invariant c.self.view_is in
    let e : c.as_slice.result.now ≡ v.strips = strips_now v c.self.inside.domain c.self.inside.strips c.as_slice.result.now c.self.view_is c.as_slice.ensures in
    let P : List Strip → Type 0 = λ l. Contains l s in
    small_strip v.domain v.strips s is (subst P e h)

pub strips_beside-requires-clause-small_first : goal.strips_beside-requires-clause-small_first
strips_beside-requires-clause-small_first c =
    let v = c.args.self.now in
    let is : IsKept v.domain v.strips = kept_now v c.self.inside.domain c.self.inside.strips c.self.invariant c.self.view_is in
    small_strip v.domain v.strips c.args.t is c.requires

pub returns : goal.returns
returns c =
    let v = c.args.self.now in
    let e : c.as_slice.result.now ≡ v.strips = strips_now v c.self.inside.domain c.self.inside.strips c.as_slice.result.now c.self.view_is c.as_slice.ensures in
    let P : List Strip → Type 0 = λ l. IfOk c.strips_beside.result (IsChoice l (λ s. IsBeside c.args.side c.args.t.area s.area)) in
    subst P e c.strips_beside.ensures
