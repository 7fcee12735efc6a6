use Rattle.std.proofs.lemmas.Result.{IfOk-weaker}
use Rattle.stitch_walk.proofs.Sweeping.{near_present, near_once}
use Rattle.strip_merge.proofs.Wanted.{beside_choice, corner_inside, found_by_corner}
use Rattle.strip_merge.proofs.queries.strips_beside.Goals as goal

pub ordered_strips-requires-clause-present : goal.ordered_strips-requires-clause-present
ordered_strips-requires-clause-present g c = near_present c.args.tiling.now.store c.args.side c.locate-id.result c.as_slice.result.now c.in_ok-ids.ids c.as_slice.ensures c.in_ok-ids.ensures

pub ordered_strips-requires-clause-once : goal.ordered_strips-requires-clause-once
ordered_strips-requires-clause-once g c = near_once c.args.tiling.now.store c.args.side c.locate-id.result c.as_slice.result.now c.in_ok-ids.ids c.as_slice.ensures c.in_ok-ids.ensures

pub returns : goal.returns
returns g c =
    let s = c.args.tiling.now.store in
    let is = found_by_corner s c.args.tiling.now.domain c.locate-id.result c.args.t c.first_point.result c.hint.ensures.tiling c.requires.listed c.first_point.ensures c.locate-id.ensures in
    IfOk-weaker c.ordered_strips.result _ _
    (λ found pieces. beside_choice s c.args.side c.locate-id.result c.args.t c.in_ok-ids.ids c.as_slice.result.now found is c.in_ok-ids.ensures c.as_slice.ensures pieces)
    c.ordered_strips.ensures

pub locate-id-requires-clause-point : goal.locate-id-requires-clause-point
locate-id-requires-clause-point g c = corner_inside c.args.tiling.now.store c.args.tiling.now.domain c.args.t c.first_point.result c.hint.ensures.tiling c.requires.listed c.first_point.ensures
