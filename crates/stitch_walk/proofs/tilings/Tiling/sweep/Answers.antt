-- From the tile of the corner, until all that was found is done.
use Rattle.std.proofs.Common.{◌≡◌, ◌≤◌, ◌+◌, List, [], ◌∷◌, ◌++◌, length, refl, ap, ◌∙◌, arith}
use Rattle.tile_store.specs.declared.tiles.TileId.{TileId}
use Rattle.stitch_walk.proofs.Reaching.{holds_by}
use Rattle.stitch_walk.proofs.Sweeping.{all_entered_in}
use Rattle.stitch_walk.proofs.Swept.{sweep_begins, sweep_goes_on, sweep_ends, corner_within, swept_present}
use Rattle.stitch_walk.proofs.tilings.Tiling.sweep.Goals as goal

pub locate-root-requires-clause-point : goal.locate-root-requires-clause-point
locate-root-requires-clause-point g c = corner_within c.args.area c.args.self.now.domain c.first_point.result c.requires c.first_point.ensures

pub loop-place-init : goal.loop-place-init
loop-place-init g c =
    let one : c.push.new.self ≡ c.locate-root.result ∷ [] = c.in_ok-push.ensures.ok ∙ ap (λ (l : List TileId). l ++ c.locate-root.result ∷ []) c.new-found.ensures in
    sweep_begins c.args.self.now.store c.args.self.now.domain c.hint.ensures.tiling.linked c.args.area c.locate-root.result c.push.new.self 0 (holds_by c.args.self.now.store c.locate-root.result c.first_point.result (record { x = c.args.area.x0; y = c.args.area.y0 }) c.first_point.ensures c.locate-root.ensures) one refl

pub all_entered-requires : goal.all_entered-requires
all_entered-requires g c = swept_present c.args.self.now.store c.args.area c.loop-place.found c.loop-place.place c.at.result c.loop-place.invariant c.at.ensures

pub loop-place-preserved : goal.loop-place-preserved
loop-place-preserved g c =
    sweep_goes_on c.args.self.now.store c.args.self.now.domain c.hint.ensures.tiling.linked c.args.area c.loop-place.found c.loop-place.place c.at.result c.as_slice.result.now c.append.new.self (c.loop-place.place + 1) c.loop-place.invariant c.at.ensures
    (all_entered_in c.args.self.now.store c.args.area c.at.result c.in_ok-entered.entered c.as_slice.result.now c.as_slice.ensures c.in_ok-entered.ensures) c.in_ok-append.ensures.ok refl

pub loop-place-preserved-in_ok-append : goal.loop-place-preserved-in_ok-append
loop-place-preserved-in_ok-append g c =
    sweep_goes_on c.args.self.now.store c.args.self.now.domain c.hint.ensures.tiling.linked c.args.area c.loop-place.found c.loop-place.place c.at.result c.as_slice.result.now c.append.new.self (c.loop-place.place + 1) c.loop-place.invariant c.at.ensures
    (all_entered_in c.args.self.now.store c.args.area c.at.result c.in_ok-entered.entered c.as_slice.result.now c.as_slice.ensures c.in_ok-entered.ensures) c.in_ok-append.ensures.ok refl

pub returns : goal.returns
returns g c =
    let past : length c.loop-place.found ≤ c.loop-place.place = omega arith in
    sweep_ends c.args.self.now.store c.args.self.now.domain c.hint.ensures.tiling.linked c.args.area c.requires c.loop-place.found c.loop-place.place c.loop-place.invariant past
