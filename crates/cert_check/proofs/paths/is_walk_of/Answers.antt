use Rattle.strip_moves.specs.Grounds.{ground_of}
use Rattle.route_law.specs.Joins.{IsConnection}
use Rattle.cert_check.proofs.Cases.{none_decides}
use Rattle.cert_check.proofs.paths.is_walk_of.Goals as goal

pub returns : goal.returns
returns g c =
    let ground = ground_of c.args.board.now.parts c.args.planes.now c.args.net in
    let X : Type 0 = IsConnection c.args.board.now.parts ground c.args.conn.now c.args.sources.now c.args.targets.now in
    let d = none_decides c.in_ok-bad.bad c.is_none.result X c.is_none.ensures c.in_ok-bad.ensures.none c.in_ok-bad.ensures.bad in
    (λ t. record { connection = d.0 t; cost = c.if-conn-d.false }, λ w. d.1 w.connection)
