use Rattle.plane_set.specs.Drawings.{drawing_by, IsBoardPlane}
use Rattle.strip_moves.proofs.Grounds.{area_same, wire_board}
use Rattle.strip_moves.proofs.net_planes.wires_of.Goals as goal

pub returns-clause-region : goal.returns-clause-region
returns-clause-region g c =
    let b = c.args.board.now.parts in
    let d = drawing_by g.P.Plane.region g.P.Plane.strips c.wire.result.now in
    let on_board : IsBoardPlane b d = wire_board b c.args.planes.now c.requires.planes c.args.l.0 c.class_of.result.0 d c.requires.layer c.wire.ensures.plane in
    area_same b d.region c.args.board.now.kept on_board.region
