use Rattle.std.proofs.Common.{subst}
use Rattle.route_law.specs.Ground.{Ground}
use Rattle.strip_moves.specs.Grounds.{ground_of}
use Rattle.tile_search.specs.Answers.{HasRightPath, HasPathEnd, HasLeastCost}
use Rattle.session_core.proofs.Answering.{joined_on}
use Rattle.session_core.proofs.attempts.join.Goals as goal

pub returns-in_ok-conn-in-Path : goal.returns-in_ok-conn-in-Path
returns-in_ok-conn-in-Path g c =
    let b = c.args.board.now.parts in
    let ground : Ground = ground_of b c.args.planes.now c.args.net in
    let path = c.in-Path in
    let traced = c.in_ok-conn-in-Path in
    joined_on b ground c.args.sources.now c.args.targets.now c.args.number path.cost path.entry path.end path.cert traced.conn
    (subst (HasRightPath ground c.args.sources.now c.args.targets.now) path.is c.in_ok-entry.ensures.path)
    (subst (HasPathEnd c.args.targets.now) path.is c.in_ok-entry.ensures.path_end)
    (subst (HasLeastCost ground c.args.sources.now c.args.targets.now) path.is c.in_ok-entry.ensures.path_least)
    traced.ensures.well_formed traced.ensures.starts traced.ensures.walk traced.ensures.stops traced.ensures.cost traced.ensures.promise
