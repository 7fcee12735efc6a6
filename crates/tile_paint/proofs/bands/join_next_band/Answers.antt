use Rattle.std.proofs.Common.{ℤ, sym, subst}
use Rattle.tile_paint.specs.States.{IsReadyFrom}
use Rattle.tile_paint.proofs.Narrowing.{labels_twice}
use Rattle.tile_paint.proofs.Rising.{ready_above}
use Rattle.tile_paint.proofs.bands.join_next_band.Goals as goal

pub returns-clause-labels : goal.returns-clause-labels
returns-clause-labels c = labels_twice c.args.t.now.store c.join_band.new.t.store c.join_row.new.t.store c.in_ok-join_band.ensures.labels c.join_row.ensures.joined.labels

pub returns-clause-ready : goal.returns-clause-ready
returns-clause-ready c =
    let labels = labels_twice c.args.t.now.store c.join_band.new.t.store c.join_row.new.t.store c.in_ok-join_band.ensures.labels c.join_row.ensures.joined.labels in
    let Q : ℤ → Type 0 = λ z. IsReadyFrom c.join_row.new.t.store c.args.area c.args.label z in
    subst Q (sym c.point_above.ensures.y)
    (ready_above c.join_band.new.t.store c.join_row.new.t.store c.join_row.new.t.domain c.tiles_fill.ensures.filled c.args.area c.first_band-band.result c.args.label c.first_band-band.ensures.band
    c.in_ok-join_band.ensures.joined c.join_row.ensures.joined c.join_row.ensures.free (λ p h. labels.onward p c.args.label (c.requires.ready.painted p h)))
