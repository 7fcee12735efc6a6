use Rattle.std.proofs.Common.{◌∙◌, refl, subst}
use Rattle.geo_rect.specs.declared.shapes.Rect.{Rect}
use Rattle.stitch_walk.specs.Pieces.{FillDomain}
use Rattle.tile_paint.proofs.Joining.{is_through, through_touches, through_ends, wide_in_domain, next_in_wide, can_join_next, labels_kept, joining_goes_on, next_wider}
use Rattle.tile_paint.proofs.widths.join_next.Goals as goal

pub find-next-requires : goal.find-next-requires
find-next-requires c =
    wide_in_domain c.args.band c.args.wide c.args.t.now.domain c.next_point.result.x c.next_point.result c.requires.rows.below c.requires.wide_inside
    (next_in_wide c.args.t.now.store c.args.area c.args.band c.args.label c.args.wide c.args.joined c.requires.joining c.requires.more c.next_point.result.x c.next_point.ensures.x)
    refl (c.next_point.ensures.y ∙ c.requires.rows.below)

pub fit-requires-clause-touches : goal.fit-requires-clause-touches
fit-requires-clause-touches c =
    let column = next_in_wide c.args.t.now.store c.args.area c.args.band c.args.label c.args.wide c.args.joined c.requires.joining c.requires.more c.next_point.result.x c.next_point.ensures.x in
    through_touches c.args.area c.args.band c.args.wide c.next_point.result.x c.find-next.result.piece.area c.requires.band c.requires.wide column.from column.to
    (is_through c.args.band c.next_point.result.x c.find-next.result.piece.area c.next_point.result refl (c.next_point.ensures.y ∙ c.requires.rows.below) c.find-next.ensures.has_point)

pub fit-requires-clause-reaches : goal.fit-requires-clause-reaches
fit-requires-clause-reaches c = (is_through c.args.band c.next_point.result.x c.find-next.result.piece.area c.next_point.result refl (c.next_point.ensures.y ∙ c.requires.rows.below) c.find-next.ensures.has_point).high

pub fit-requires-clause-begins : goal.fit-requires-clause-begins
fit-requires-clause-begins c = through_ends c.args.band c.next_point.result.x c.find-next.result.piece.area (is_through c.args.band c.next_point.result.x c.find-next.result.piece.area c.next_point.result refl (c.next_point.ensures.y ∙ c.requires.rows.below) c.find-next.ensures.has_point)

pub join_side-requires : goal.join_side-requires
join_side-requires c =
    let Q : Rect → Type 0 = λ r. FillDomain c.fit.new.t.store r in
    let fill = subst Q c.fit.ensures.domain c.tiles_fill.ensures.filled in
    can_join_next c.args.t.now.store c.args.t.now.domain c.find-next.ensures.filled c.args.area c.args.band c.args.label c.args.wide c.args.joined c.requires.band c.requires.wide c.requires.joining c.requires.more c.next_point.result.x c.next_point.ensures.x c.find-next.result c.find-next.ensures.piece (is_through c.args.band c.next_point.result.x c.find-next.result.piece.area c.next_point.result refl (c.next_point.ensures.y ∙ c.requires.rows.below) c.find-next.ensures.has_point) c.fit.new.t.store c.in_ok-_fitted._fitted fill c.in_ok-_fitted.ensures.narrowed c.in_ok-_fitted.ensures.rest c.in_ok-_fitted.ensures.open_from

pub returns-clause-labels : goal.returns-clause-labels
returns-clause-labels c =
    let Q : Rect → Type 0 = λ r. FillDomain c.fit.new.t.store r in
    let fill = subst Q c.fit.ensures.domain c.tiles_fill.ensures.filled in
    labels_kept c.args.t.now.store c.args.t.now.domain c.find-next.ensures.filled c.args.area c.args.band c.args.label c.args.wide c.args.joined c.requires.band c.requires.wide c.requires.joining c.requires.more c.next_point.result.x c.next_point.ensures.x c.find-next.result c.find-next.ensures.piece (is_through c.args.band c.next_point.result.x c.find-next.result.piece.area c.next_point.result refl (c.next_point.ensures.y ∙ c.requires.rows.below) c.find-next.ensures.has_point) c.fit.new.t.store c.in_ok-_fitted._fitted fill c.in_ok-_fitted.ensures.narrowed c.in_ok-_fitted.ensures.rest c.in_ok-_fitted.ensures.open_from c.join_side.new.t.store c.join_side.ensures.joined

pub returns-clause-joining : goal.returns-clause-joining
returns-clause-joining c =
    let Q : Rect → Type 0 = λ r. FillDomain c.fit.new.t.store r in
    let fill = subst Q c.fit.ensures.domain c.tiles_fill.ensures.filled in
    joining_goes_on c.args.t.now.store c.args.t.now.domain c.find-next.ensures.filled c.args.area c.args.band c.args.label c.args.wide c.args.joined c.requires.band c.requires.wide c.requires.joining c.requires.more c.next_point.result.x c.next_point.ensures.x c.find-next.result c.find-next.ensures.piece (is_through c.args.band c.next_point.result.x c.find-next.result.piece.area c.next_point.result refl (c.next_point.ensures.y ∙ c.requires.rows.below) c.find-next.ensures.has_point) c.fit.new.t.store c.in_ok-_fitted._fitted fill c.in_ok-_fitted.ensures.narrowed c.in_ok-_fitted.ensures.rest c.in_ok-_fitted.ensures.open_from c.join_side.new.t.store c.join_side.ensures.joined c.read.result c.read.ensures.id c.read.ensures.piece

pub returns-clause-onward : goal.returns-clause-onward
returns-clause-onward c =
    let Q : Rect → Type 0 = λ r. FillDomain c.fit.new.t.store r in
    let fill = subst Q c.fit.ensures.domain c.tiles_fill.ensures.filled in
    next_wider c.args.t.now.store c.args.t.now.domain c.find-next.ensures.filled c.args.area c.args.band c.args.label c.args.wide c.args.joined c.requires.band c.requires.wide c.requires.joining c.requires.more c.next_point.result.x c.next_point.ensures.x c.find-next.result c.find-next.ensures.piece (is_through c.args.band c.next_point.result.x c.find-next.result.piece.area c.next_point.result refl (c.next_point.ensures.y ∙ c.requires.rows.below) c.find-next.ensures.has_point) c.fit.new.t.store c.in_ok-_fitted._fitted fill c.in_ok-_fitted.ensures.narrowed c.in_ok-_fitted.ensures.rest c.in_ok-_fitted.ensures.open_from c.join_side.new.t.store c.join_side.ensures.joined c.read.result c.read.ensures.piece
