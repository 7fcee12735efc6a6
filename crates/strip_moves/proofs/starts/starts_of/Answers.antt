use Rattle.strip_moves.specs.Grounds.{ground_of}
use Rattle.strip_moves.proofs.InBoxes.{each_start, all_starts}
use Rattle.strip_moves.proofs.starts.starts_of.Goals as goal

pub returns-clause-each : goal.returns-clause-each
returns-clause-each g c =
    each_start (ground_of c.args.board.now.parts c.args.planes.now c.args.net) (g.P.Plane.strips c.wires_of-plane.result.now) c.args.source
    c.wires_of-plane.ensures.strips c.requires.source.layer c.args.number c.new-starts.result c.push_starts.new.starts c.new-starts.ensures c.in_ok-push_starts.ensures

pub returns-clause-all : goal.returns-clause-all
returns-clause-all g c =
    all_starts (ground_of c.args.board.now.parts c.args.planes.now c.args.net) (g.P.Plane.strips c.wires_of-plane.result.now) c.args.source
    c.wires_of-plane.ensures.strips c.requires.source.layer c.args.number c.new-starts.result c.push_starts.new.starts c.new-starts.ensures c.in_ok-push_starts.ensures
