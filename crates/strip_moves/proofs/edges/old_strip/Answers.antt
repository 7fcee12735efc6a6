use Rattle.strip_moves.proofs.Away.{same_strip, point_inside}
use Rattle.strip_moves.proofs.edges.old_strip.Goals as goal

pub strip_at-requires : goal.strip_at-requires
strip_at-requires g c =
    point_inside (g.P.Plane.region c.args.plane.now) (g.P.Plane.strips c.args.plane.now) c.args.d c.requires.canonical c.requires.passable c.corner.result c.corner.ensures

pub returns-clause-same : goal.returns-clause-same
returns-clause-same g c =
    same_strip (g.P.Plane.region c.args.plane.now) (g.P.Plane.strips c.args.plane.now) c.args.d c.requires.canonical c.requires.passable
    c.strip_at.result c.corner.result c.strip_at.ensures.listed c.strip_at.ensures.has_point c.corner.ensures
