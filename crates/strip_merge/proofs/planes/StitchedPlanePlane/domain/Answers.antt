use Rattle.strip_merge.proofs.Forming.{stitched_now, stitched_plane}
use Rattle.strip_merge.proofs.planes.StitchedPlanePlane.domain.Goals as goal

pub returns-clause-canonical : goal.returns-clause-canonical
returns-clause-canonical c = stitched_plane c.args.self.now.store c.args.self.now.domain (stitched_now c.self.inside.tiling c.args.self.now c.self.invariant c.self.view_is)
