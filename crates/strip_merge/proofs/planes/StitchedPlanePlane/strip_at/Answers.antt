use Rattle.strip_merge.proofs.Forming.{label_now, stitched_now, stitched_plane}
use Rattle.strip_merge.proofs.planes.StitchedPlanePlane.strip_at.Goals as goal

pub returns-clause-label : goal.returns-clause-label
returns-clause-label c =
    label_now c.self.inside.tiling c.args.self.now c.strip_having.result c.args.p c.self.invariant c.self.view_is
    c.strip_having.ensures.listed c.strip_having.ensures.has_point

pub returns-clause-canonical : goal.returns-clause-canonical
returns-clause-canonical c = stitched_plane c.args.self.now.store c.args.self.now.domain (stitched_now c.self.inside.tiling c.args.self.now c.self.invariant c.self.view_is)
