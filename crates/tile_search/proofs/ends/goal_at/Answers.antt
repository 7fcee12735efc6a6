use Rattle.std.proofs.Common.{ap}
use Rattle.geo_rect.proofs.Parts.{lies_in_from, bounded_within}
use Rattle.board_parts.specs.Lookup.{layer_at}
use Rattle.tile_search.proofs.GoalsAt.{other_layer, no_common, cheapest_at}
use Rattle.tile_search.proofs.ends.goal_at.Goals as goal

pub returns-then-target-e : goal.returns-then-target-e
returns-then-target-e c = other_layer c.args.target c.args.number c.args.e c.if-target-e.true

pub returns-in-None : goal.returns-in-None
returns-in-None c = no_common c.args.target c.args.number c.args.e c.in-None.ensures.none

pub goal_in-requires-clause-part : goal.goal_in-requires-clause-part
goal_in-requires-clause-part c =
    bounded_within c.in-Some.common c.args.e.strip (lies_in_from c.in-Some.common c.args.e.strip c.in-Some.ensures.some.first) c.requires.strip

pub returns-in-Some : goal.returns-in-Some
returns-in-Some c = cheapest_at c.args.target c.args.number c.args.e c.in-Some.common (ap layer_at c.if-target-e.false) c.in-Some.ensures.some c.goal_in.result c.goal_in.ensures
