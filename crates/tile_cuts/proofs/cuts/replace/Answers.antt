-- The tiling is linked but for the stitches into the second part, and those are mended.
use Rattle.tile_cuts.proofs.Cutting.{cut_linked_but, cut_tiling, cut_into_inside}
use Rattle.tile_cuts.proofs.cuts.replace.Goals as goal

pub relink-requires : goal.relink-requires
relink-requires c =
    let t = c.t.inside in
    (t.domain, cut_linked_but t.store c.write.new.self c.put-other.new.self t.domain c.args.id c.put-other.result c.args.first c.args.second c.t.invariant (cut_into_inside t.store t.domain c.args.t.now c.args.id c.args.first c.args.second c.t.view_is c.requires.ready) c.write.ensures.changed c.put-other.ensures.was_absent c.put-other.ensures.changed)

pub invariant_of-t : goal.invariant_of-t
invariant_of-t c =
    let t = c.t.inside in
    cut_tiling t.store c.write.new.self c.put-other.new.self t.domain c.args.id c.put-other.result c.args.first c.args.second c.t.invariant (cut_into_inside t.store t.domain c.args.t.now c.args.id c.args.first c.args.second c.t.view_is c.requires.ready) c.write.ensures.changed c.put-other.ensures.was_absent c.put-other.ensures.changed c.relink.new.store c.relink.ensures.mended c.relink.ensures.named
