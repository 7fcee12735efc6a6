use Rattle.stitch_walk.proofs.Reaching.{when_true, when_false}
use Rattle.tile_paint.proofs.AtPoints.{none_outside, none_through, none_at_bottom, none_unlike, can_join_up, joined_at, gone_at, joined_not}
use Rattle.tile_paint.proofs.ledges.join_below.Goals as goal

pub returns-in_default-clause-joined : goal.returns-in_default-clause-joined
returns-in_default-clause-joined c = joined_not c.args.t.now.store c.args.p.y

pub returns-in_default-clause-gone : goal.returns-in_default-clause-gone
returns-in_default-clause-gone c = none_outside c.args.t.now.store c.args.t.now.domain c.look.ensures.filled c.args.p c.in_default.ensures.none

pub returns-then-not-begins_at-clause-joined : goal.returns-then-not-begins_at-clause-joined
returns-then-not-begins_at-clause-joined c = joined_not c.args.t.now.store c.args.p.y

pub returns-then-not-begins_at-clause-gone : goal.returns-then-not-begins_at-clause-gone
returns-then-not-begins_at-clause-gone c = none_through c.args.t.now.store c.args.t.now.domain c.look.ensures.filled c.args.p c.in-Some.upper c.in-Some.ensures.piece c.in-Some.ensures.has_point (when_false _ _ c.begins_at.ensures c.if-not-begins_at.true)

pub returns-in_default-look-clause-joined : goal.returns-in_default-look-clause-joined
returns-in_default-look-clause-joined c = joined_not c.args.t.now.store c.args.p.y

pub returns-in_default-look-clause-gone : goal.returns-in_default-look-clause-gone
returns-in_default-look-clause-gone c = none_at_bottom c.args.t.now.store c.args.t.now.domain c.look.ensures.filled c.args.p c.in-Some.upper c.in-Some.ensures.piece c.in-Some.ensures.has_point c.point_below.result c.point_below.ensures.x c.point_below.ensures.y c.in_default-look.ensures.none

pub join_up-requires : goal.join_up-requires
join_up-requires c = can_join_up c.args.t.now.store c.args.t.now.domain c.look.ensures.filled c.args.p c.in-Some.upper c.in-Some.ensures.piece c.in-Some.ensures.has_point c.point_below.result c.point_below.ensures.x c.point_below.ensures.y c.in-Some-look.lower c.in-Some-look.ensures.piece c.in-Some-look.ensures.has_point (when_true _ _ c.begins_at.ensures c.if-not-begins_at.false) (when_true _ _ c.are_alike.ensures c.if-are_alike.true)

pub returns-then-are_alike-clause-joined : goal.returns-then-are_alike-clause-joined
returns-then-are_alike-clause-joined c = joined_at c.args.t.now.store c.args.t.now.domain c.look.ensures.filled c.args.p c.in-Some.upper c.in-Some.ensures.piece c.in-Some.ensures.has_point c.point_below.result c.point_below.ensures.x c.point_below.ensures.y c.in-Some-look.lower c.in-Some-look.ensures.piece c.in-Some-look.ensures.has_point (when_true _ _ c.begins_at.ensures c.if-not-begins_at.false) c.join_up.new.t.store c.join_up.ensures.joined

pub returns-then-are_alike-clause-gone : goal.returns-then-are_alike-clause-gone
returns-then-are_alike-clause-gone c = gone_at c.args.t.now.store c.args.t.now.domain c.look.ensures.filled c.args.p c.in-Some.upper c.in-Some.ensures.piece c.in-Some.ensures.has_point c.point_below.result c.point_below.ensures.x c.point_below.ensures.y c.in-Some-look.lower c.in-Some-look.ensures.piece c.in-Some-look.ensures.has_point (when_true _ _ c.begins_at.ensures c.if-not-begins_at.false) c.join_up.new.t.store c.join_up.ensures.joined

pub returns-else-are_alike-clause-joined : goal.returns-else-are_alike-clause-joined
returns-else-are_alike-clause-joined c = joined_not c.args.t.now.store c.args.p.y

pub returns-else-are_alike-clause-gone : goal.returns-else-are_alike-clause-gone
returns-else-are_alike-clause-gone c = none_unlike c.args.t.now.store c.args.t.now.domain c.look.ensures.filled c.args.p c.in-Some.upper c.in-Some.ensures.piece c.in-Some.ensures.has_point c.point_below.result c.point_below.ensures.x c.point_below.ensures.y c.in-Some-look.lower c.in-Some-look.ensures.piece c.in-Some-look.ensures.has_point (when_false _ _ c.are_alike.ensures c.if-are_alike.false)
