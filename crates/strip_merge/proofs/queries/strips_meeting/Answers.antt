use Rattle.std.proofs.Common.{List, subst, sym}
use Rattle.std.proofs.lemmas.Result.{IfOk-weaker}
use Rattle.tile_store.specs.declared.tiles.TileId.{TileId}
use Rattle.stitch_walk.specs.Neighbours.{IsDistinct}
use Rattle.strip_merge.proofs.Wanted.{meeting_choice, meeting_present}
use Rattle.strip_merge.proofs.queries.strips_meeting.Goals as goal

pub ordered_strips-requires-clause-present : goal.ordered_strips-requires-clause-present
ordered_strips-requires-clause-present g c id h = meeting_present c.args.tiling.now.store c.args.area c.in_ok-ids.ids c.as_slice.result.now id c.in_ok-ids.ensures c.as_slice.ensures h

pub ordered_strips-requires-clause-once : goal.ordered_strips-requires-clause-once
ordered_strips-requires-clause-once g c = let P : List TileId → Type 0 = λ l. IsDistinct l in subst P (sym c.as_slice.ensures) c.in_ok-ids.ensures.once

pub returns : goal.returns
returns g c =
    IfOk-weaker c.ordered_strips.result _ _
    (λ found pieces. meeting_choice c.args.tiling.now.store c.args.area c.in_ok-ids.ids c.as_slice.result.now found c.in_ok-ids.ensures c.as_slice.ensures pieces)
    c.ordered_strips.ensures
