use Rattle.std.proofs.Common.{◌∙◌}
use Rattle.tile_paint.proofs.AtPoints.{row_joined, row_free}
use Rattle.tile_paint.proofs.ledges.join_row.Goals as goal

pub returns-clause-joined : goal.returns-clause-joined
returns-clause-joined c = row_joined c.args.t.now.store c.join_below.new.t.store c.join_below-2.new.t.store c.join_below-3.new.t.store c.args.row c.point_before.result c.first_point.result c.point_after.result c.point_before.ensures.y c.first_point.ensures.y (c.point_after.ensures.y ∙ c.first_point-2.ensures.y) c.join_below.ensures.joined c.join_below-2.ensures.joined c.join_below-3.ensures.joined

pub returns-clause-free : goal.returns-clause-free
returns-clause-free c = row_free c.args.t.now.store c.join_below.new.t.store c.join_below-2.new.t.store c.join_below-3.new.t.store c.args.row c.point_before.result c.first_point.result c.point_after.result c.point_before.ensures.y c.first_point.ensures.y (c.point_after.ensures.y ∙ c.first_point-2.ensures.y) c.join_below.ensures.joined c.join_below-2.ensures.joined c.join_below-3.ensures.joined c.point_before.ensures.x c.first_point.ensures.x c.point_after.ensures.x c.join_below.ensures.gone c.join_below-2.ensures.gone c.join_below-3.ensures.gone
