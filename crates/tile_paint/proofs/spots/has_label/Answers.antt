use Rattle.std.proofs.Common.{◌≡◌, true, false}
use Rattle.tile_paint.proofs.Axes.{has_point_in}
use Rattle.tile_paint.proofs.AtPoints.{labelled_inside, label_of_piece}
use Rattle.tile_paint.proofs.spots.has_label.Goals as goal

pub returns-in_default-clause-label : goal.returns-in_default-clause-label
returns-in_default-clause-label c = (
  λ e. absurd (let f : false ≡ true = e in cc),
  λ h. absurd (c.in_default.ensures.none (labelled_inside c.args.t.now.store c.args.t.now.domain c.look.ensures.filled c.args.p c.args.label h)),
)

pub returns-clause-label : goal.returns-clause-label
returns-clause-label c = (
  λ e. record { by = c.in-Some.found.id; piece = c.in-Some.found.piece; is_piece = c.in-Some.ensures.piece; has_point = c.in-Some.ensures.has_point; has_label = c.are_same_label.ensures.0 e },
  λ h. c.are_same_label.ensures.1 (label_of_piece c.args.t.now.store c.args.t.now.domain c.look.ensures.filled c.in-Some.found.id c.in-Some.found.piece c.args.p c.args.label c.in-Some.ensures.piece c.in-Some.ensures.has_point h),
)

pub returns-clause-inside : goal.returns-clause-inside
returns-clause-inside c = λ e. has_point_in c.in-Some.found.piece.area c.args.t.now.domain c.args.p (c.look.ensures.filled.inside c.in-Some.found.id c.in-Some.found.piece c.in-Some.ensures.piece) c.in-Some.ensures.has_point
