use Rattle.strip_moves.proofs.Boards.{short_way}
use Rattle.strip_moves.proofs.departures.way_between.Goals as goal

pub returns-clause-short : goal.returns-clause-short
returns-clause-short c = short_way c.args.a c.args.b c.dist.result c.requires.first c.requires.second c.dist.ensures.exact
