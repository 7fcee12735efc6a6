use Rattle.geo_rect.proofs.Bands.{edge_right, edge_left, edge_upper, edge_lower_if, edge_none_if}
use Rattle.geo_rect.proofs.geometry.edge.Goals as goal

pub returns-in-Some-clause-some : goal.returns-in-Some-clause-some
returns-in-Some-clause-some c = edge_right c.args.t c.args.u c.requires.separate _ _ c.right_of.ensures c.in-Some.ensures.some

pub returns-in-Some-meet-clause-some : goal.returns-in-Some-meet-clause-some
returns-in-Some-meet-clause-some c = edge_left c.args.t c.args.u c.requires.separate _ _ c.left_of.ensures c.in-Some-meet.ensures.some

pub returns-in-Some-meet-2-clause-some : goal.returns-in-Some-meet-2-clause-some
returns-in-Some-meet-2-clause-some c = edge_upper c.args.t c.args.u c.requires.separate _ _ c.above.ensures c.in-Some-meet-2.ensures.some

pub returns-clause-some : goal.returns-clause-some
returns-clause-some c = edge_lower_if c.args.t c.args.u c.requires.separate _ _ c.below.ensures c.meet-4.ensures.some

pub returns-clause-none : goal.returns-clause-none
returns-clause-none c =
    edge_none_if c.args.t c.args.u c.requires.separate _ _ _ _ _ c.right_of.ensures c.left_of.ensures c.above.ensures c.below.ensures c.in_default.ensures.none c.in_default-meet.ensures.none c.in_default-meet-2.ensures.none c.meet-4.ensures.none
