use Rattle.std.proofs.Common.{Option, Some, arith, subst}
use Rattle.std.proofs.lemmas.Int.{ints, clamps}
use Rattle.plane_core.specs.declared.strips.Strip.{Strip}
use Rattle.flat_plane.specs.Painting.{StartsIn}
use Rattle.flat_plane.proofs.bands.capped.Goals as goal

pub invariant_of-result : goal.invariant_of-result
invariant_of-result c =
    let P : Option Strip → Type 0 = λ o. StartsIn c.args.band.low o in
    let h : StartsIn c.args.band.low (Some c.in-Some.strip) = subst P c.in-Some.is c.requires in
    let a = h.from in let b = h.to in let o = c.args.band.ordered in
    record { ordered = omega (arith, ints, clamps) }
