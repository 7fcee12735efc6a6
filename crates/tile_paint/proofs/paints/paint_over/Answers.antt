use Rattle.std.proofs.Common.{◌∙◌, sym, subst}
use Rattle.geo_rect.specs.declared.shapes.Rect.{Rect}
use Rattle.geo_rect.specs.Plane.{LiesIn}
use Rattle.tile_paint.proofs.Rising.{all_maximal, reach_above}
use Rattle.tile_paint.proofs.Widening.{small_in}
use Rattle.tile_paint.proofs.paints.paint_over.Goals as goal

pub row_above-requires : goal.row_above-requires
row_above-requires c =
    let Q : Rect → Type 0 = λ r. LiesIn c.args.area r in
    small_in c.args.area c.join_bands.new.t.domain (subst Q (sym (c.join_bands.ensures.domain ∙ c.cut_out.ensures.domain)) c.requires.area) c.tiles_fill.ensures.small

pub join_row-requires : goal.join_row-requires
join_row-requires c =
    let Q : Rect → Type 0 = λ r. LiesIn c.args.area r in
    reach_above c.args.area c.row_above.result c.join_bands.new.t.domain c.tiles_fill.ensures.small (subst Q (sym (c.join_bands.ensures.domain ∙ c.cut_out.ensures.domain)) c.requires.area) c.row_above.ensures.left c.row_above.ensures.right

pub returns-clause-within : goal.returns-clause-within
returns-clause-within c = λ p h. c.join_row.ensures.joined.labels.onward p c.args.label (c.in_ok-join_bands.ensures.labels.onward p c.args.label (c.in_ok-cut_out.ensures.ready.painted p h))

pub returns-clause-elsewhere : goal.returns-clause-elsewhere
returns-clause-elsewhere c = λ p was out h. c.join_row.ensures.joined.labels.onward p was (c.in_ok-join_bands.ensures.labels.onward p was (c.in_ok-cut_out.ensures.outside p was out h))

pub returns-clause-maximal : goal.returns-clause-maximal
returns-clause-maximal c =
    all_maximal c.join_bands.new.t.store c.join_row.new.t.store c.join_row.new.t.domain c.tiles_fill-2.ensures.filled c.args.area c.row_above.result c.args.label
    c.in_ok-join_bands.ensures.ready c.row_above.ensures.left c.row_above.ensures.right c.row_above.ensures.low c.join_row.ensures.joined c.join_row.ensures.free
