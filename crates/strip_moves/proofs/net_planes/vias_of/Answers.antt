use Rattle.plane_set.specs.Drawings.{drawing_by, IsBoardPlane}
use Rattle.strip_moves.proofs.Grounds.{area_same, via_board}
use Rattle.strip_moves.proofs.net_planes.vias_of.Goals as goal

pub returns-clause-region : goal.returns-clause-region
returns-clause-region g c =
    let b = c.args.board.now.parts in
    let d = drawing_by g.P.Plane.region g.P.Plane.strips c.via.result.now in
    let on_board : IsBoardPlane b d = via_board b c.args.planes.now c.requires.planes c.args.k.0 c.class_of.result.0 d c.requires.kind c.via.ensures.plane in
    area_same b d.region c.args.board.now.kept on_board.region
