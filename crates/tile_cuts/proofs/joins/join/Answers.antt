-- The tiling is linked but for the stitches into the joined tile, and those are mended.
use Rattle.std.proofs.Common.{refl}
use Rattle.tile_cuts.proofs.Joining.{not_one, still_present, joinable_parts, join_linked_but, join_tiling, join_joins}
use Rattle.tile_cuts.proofs.joins.join.Goals as goal

pub join_areas-area-requires : goal.join_areas-area-requires
join_areas-area-requires c =
    (c.requires.whole, joinable_parts c.t.inside.store c.t.inside.domain c.args.t.now c.args.id c.args.other c.read-first.result c.take-second.result c.t.view_is c.requires c.read-first.ensures c.take-second.ensures.was_there)

pub write-requires : goal.write-requires
write-requires c =
    let parts = c.join_areas-area.ensures in
    let differs = not_one c.t.inside.store c.args.id c.args.other c.read-first.result c.take-second.result c.join_areas-area.result c.read-first.ensures c.take-second.ensures.was_there parts in
    still_present c.t.inside.store c.args.id c.args.other c.read-first.result c.take-second.result c.join_areas-area.result c.read-first.ensures c.take-second.ensures.was_there parts c.take-second.new.self (c.take-second.ensures.changed.elsewhere c.args.id differs)

pub relink-requires : goal.relink-requires
relink-requires c =
    (c.t.inside.domain, join_linked_but c.t.inside.store c.take-second.new.self c.write.new.self c.t.inside.domain c.args.id c.args.other c.read-first.result c.take-second.result _ c.t.invariant c.read-first.ensures c.take-second.ensures.was_there c.join_areas-area.ensures (record { bl = refl; lb = refl; tr = refl; rt = refl }) c.take-second.ensures.changed c.write.ensures.changed)

pub invariant_of-t : goal.invariant_of-t
invariant_of-t c =
    join_tiling c.t.inside.store c.take-second.new.self c.write.new.self c.t.inside.domain c.args.id c.args.other c.read-first.result c.take-second.result _ c.t.invariant c.read-first.ensures c.take-second.ensures.was_there c.join_areas-area.ensures (record { bl = refl; lb = refl; tr = refl; rt = refl }) c.take-second.ensures.changed c.write.ensures.changed c.relink.new.store c.relink.ensures.mended c.relink.ensures.named

pub returns-clause-joined : goal.returns-clause-joined
returns-clause-joined c =
    join_joins c.t.inside.store c.take-second.new.self c.write.new.self c.t.inside.domain c.args.id c.args.other c.read-first.result c.take-second.result _ c.t.invariant c.read-first.ensures c.take-second.ensures.was_there c.join_areas-area.ensures (record { bl = refl; lb = refl; tr = refl; rt = refl }) c.take-second.ensures.changed c.write.ensures.changed c.relink.new.store c.relink.ensures.mended refl c.args.t.now c.t.view_is
