-- What a sweep enters is next to the tile, on the right or on the upper side.
use Rattle.plane_core.specs.declared.sides.Side.TheVariants.{Right, Above}
use Rattle.std.proofs.Common.{◌≡◌, List, ◌++◌, ap, ◌∙◌}
use Rattle.tile_store.specs.declared.tiles.TileId.{TileId}
use Rattle.stitch_walk.proofs.Linked.{tiling_now}
use Rattle.stitch_walk.proofs.Sweeping.{entered_on_both, near_present, near_once, entered_in}
use Rattle.stitch_walk.proofs.tilings.Tiling.all_entered.Goals as goal

pub entered-requires-clause-near : goal.entered-requires-clause-near
entered-requires-clause-near g c = near_present c.args.self.now.store Right c.args.id c.as_slice.result.now c.in_ok-right.right c.as_slice.ensures c.in_ok-right.ensures.found

pub entered-requires-clause-once : goal.entered-requires-clause-once
entered-requires-clause-once g c = near_once c.args.self.now.store Right c.args.id c.as_slice.result.now c.in_ok-right.right c.as_slice.ensures c.in_ok-right.ensures.found

pub entered-requires-2-clause-near : goal.entered-requires-2-clause-near
entered-requires-2-clause-near g c = near_present c.args.self.now.store Above c.args.id c.as_slice-2.result.now c.in_ok-above.above c.as_slice-2.ensures c.in_ok-above.ensures.found

pub entered-requires-2-clause-once : goal.entered-requires-2-clause-once
entered-requires-2-clause-once g c = near_once c.args.self.now.store Above c.args.id c.as_slice-2.result.now c.in_ok-above.above c.as_slice-2.ensures c.in_ok-above.ensures.found

pub returns : goal.returns
returns g c =
    let is = tiling_now c.self.inside.store c.self.inside.domain _ c.self.view_is c.self.invariant in
    let s = c.args.self.now.store in
    let found = entered_in s c.args.area c.args.id c.as_slice.result.now c.in_ok-right.right c.in_ok-found.found c.as_slice.ensures c.in_ok-found.ensures in
    let upper = entered_in s c.args.area c.args.id c.as_slice-2.result.now c.in_ok-above.above c.in_ok-upper.upper c.as_slice-2.ensures c.in_ok-upper.ensures in
    let all : c.append.new.self ≡ c.in_ok-found.found ++ c.in_ok-upper.upper = c.in_ok-append.ensures.ok ∙ ap (λ (l : List TileId). c.in_ok-found.found ++ l) c.as_slice-3.ensures in
    entered_on_both s c.args.self.now.domain c.args.area is.linked c.args.id c.in_ok-right.right c.in_ok-above.above c.in_ok-found.found c.in_ok-upper.upper c.append.new.self c.in_ok-right.ensures.found c.in_ok-above.ensures.found found upper all
