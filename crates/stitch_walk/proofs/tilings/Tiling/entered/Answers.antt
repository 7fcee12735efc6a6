-- One near tile more: it is added where a sweep enters it.
use Rattle.std.proofs.Common.{◌<◌, ◌≤◌, length, refl, ◌∙◌, arith}
use Rattle.stitch_walk.proofs.Pairs.{contains_at}
use Rattle.stitch_walk.proofs.Reaching.{when_true, when_false}
use Rattle.stitch_walk.proofs.Sweeping.{entered_none, entered_more, entered_same, entered_all, not_next}
use Rattle.stitch_walk.proofs.tilings.Tiling.entered.Goals as goal
use Rattle.stitch_walk.proofs.tilings.Tiling.entered.Goals.{then-enters_from+in_ok-push, else-enters_from}

pub loop-next-init : goal.loop-next-init
loop-next-init g c = entered_none c.args.self.now.store c.args.area c.args.id c.args.near.now c.new-found.result c.new-found.ensures

pub tile-requires : goal.tile-requires
tile-requires g c =
    let within : c.loop-next.next-index < length c.args.near.now = omega arith in
    c.requires.near _ (contains_at c.args.near.now c.loop-next.next-index (record { 0 = 0 }) within)

pub loop-next-preserved : goal.loop-next-preserved
loop-next-preserved g c =
    let within : c.loop-next.next-index < length c.args.near.now = omega arith in
    elim c.if-enters_from.branch [
      | then-enters_from+in_ok-push w ↦
          entered_more c.args.self.now.store c.args.area c.args.id c.args.near.now c.loop-next.next-index _ (record { 0 = 0 }) within refl c.loop-next.found c.loop-next.invariant c.requires.once
          (record {
            tile = c.tile-tile.result;
            is_there = c.tile-tile.ensures.tile;
            next = c.tile.result;
            next_is_there = c.tile.ensures.tile;
            enters = when_true _ _ c.enters_from.ensures w.if-enters_from.true;
          })
          c.if-enters_from.found (w.found-is ∙ w.in_ok-push.ensures.ok)
      | else-enters_from w ↦
          entered_same c.args.self.now.store c.args.area c.args.id c.args.near.now c.loop-next.next-index _ (record { 0 = 0 }) within refl c.loop-next.found c.loop-next.invariant
          (not_next c.args.self.now.store c.args.area c.args.id _ c.tile-tile.result c.tile.result c.tile-tile.ensures.tile c.tile.ensures.tile (when_false _ _ c.enters_from.ensures w.if-enters_from.false))
          c.if-enters_from.found w.found-is
    ]

pub returns : goal.returns
returns g c =
    let past : length c.args.near.now ≤ c.loop-next.next-index = omega arith in
    entered_all c.args.self.now.store c.args.area c.args.id c.args.near.now c.loop-next.next-index c.loop-next.found past c.loop-next.invariant
