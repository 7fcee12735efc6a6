use Rattle.std.proofs.Common.{◌∙◌, subst}
use Rattle.geo_rect.specs.declared.shapes.Rect.{Rect}
use Rattle.geo_rect.specs.Plane.{columns}
use Rattle.geo_rect.proofs.Parts.{low_in}
use Rattle.stitch_walk.specs.Pieces.{FillDomain}
use Rattle.tile_paint.proofs.Joining.{is_wide, is_through, through_touches, through_ends, wide_in_domain, joining_begins}
use Rattle.tile_paint.proofs.widths.join_first.Goals as goal

pub find-first-requires : goal.find-first-requires
find-first-requires c = wide_in_domain c.args.band c.args.wide c.args.t.now.domain c.args.wide.x0 c.first_point.result c.requires.wide.low c.requires.wide_inside (low_in (columns c.args.wide)) c.first_point.ensures.x (c.first_point.ensures.y ∙ c.requires.wide.low)

pub fit-requires-clause-touches : goal.fit-requires-clause-touches
fit-requires-clause-touches c =
    let low = low_in (columns c.args.wide) in
    through_touches c.args.area c.args.band c.args.wide c.args.wide.x0 c.find-first.result.piece.area c.requires.band (is_wide c.args.t.now.store c.args.band c.args.label c.args.wide c.requires.wide) low.from low.to
    (is_through c.args.band c.args.wide.x0 c.find-first.result.piece.area c.first_point.result c.first_point.ensures.x (c.first_point.ensures.y ∙ c.requires.wide.low) c.find-first.ensures.has_point)

pub fit-requires-clause-begins : goal.fit-requires-clause-begins
fit-requires-clause-begins c = through_ends c.args.band c.args.wide.x0 c.find-first.result.piece.area (is_through c.args.band c.args.wide.x0 c.find-first.result.piece.area c.first_point.result c.first_point.ensures.x (c.first_point.ensures.y ∙ c.requires.wide.low) c.find-first.ensures.has_point)

pub returns-clause-joining : goal.returns-clause-joining
returns-clause-joining c =
    let Q : Rect → Type 0 = λ r. FillDomain c.fit.new.t.store r in
    joining_begins c.args.t.now.store c.args.area c.args.band c.args.label c.args.wide c.requires.band c.requires.ready c.requires.wide c.fit.new.t.store c.args.t.now.domain
    c.find-first.ensures.filled (subst Q c.fit.ensures.domain c.tiles_fill.ensures.filled) c.requires.tall c.find-first.result c.in_ok-joined.joined c.find-first.ensures.piece
    (is_through c.args.band c.args.wide.x0 c.find-first.result.piece.area c.first_point.result c.first_point.ensures.x (c.first_point.ensures.y ∙ c.requires.wide.low) c.find-first.ensures.has_point)
    c.in_ok-joined.ensures.narrowed c.in_ok-joined.ensures.rest c.in_ok-joined.ensures.open_from
