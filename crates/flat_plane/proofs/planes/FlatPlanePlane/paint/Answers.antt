use Rattle.flat_plane.proofs.KeptFacts.{painted_kept, painted_now}
use Rattle.flat_plane.proofs.planes.FlatPlanePlane.paint.Goals as goal

pub invariant_of-result : goal.invariant_of-result
invariant_of-result c =
    painted_kept c.self.inside.domain c.self.inside.strips c.as_slice.result.now c.in_ok-strips.strips c.args.area c.args.label
    c.self.invariant c.as_slice.ensures c.in_ok-strips.ensures

pub returns-clause-labels : goal.returns-clause-labels
returns-clause-labels c =
    painted_now c.args.self c.self.inside.domain c.self.inside.strips c.as_slice.result.now c.in_ok-strips.strips c.args.area c.args.label
    c.self.view_is c.as_slice.ensures c.requires c.in_ok-strips.ensures

pub returns-clause-canonical : goal.returns-clause-canonical
returns-clause-canonical c =
    (painted_kept c.self.inside.domain c.self.inside.strips c.as_slice.result.now c.in_ok-strips.strips c.args.area c.args.label
    c.self.invariant c.as_slice.ensures c.in_ok-strips.ensures).canonical
