use Rattle.std.proofs.lemmas.Option.{IfSome_then}
use Rattle.geo_rect.specs.declared.shapes.Rect.{Rect}
use Rattle.route_law.specs.Moves.{IsMeetOfThree}
use Rattle.cert_check.proofs.Cases.{none_anyway, none_then}
use Rattle.cert_check.proofs.Meets.{corner_of, has_corner, three_first, three_second, three_third}
use Rattle.cert_check.proofs.rects.meet_of_three.Goals as goal

pub returns-in_err-shared-clause-none : goal.returns-in_err-shared-clause-none
returns-in_err-shared-clause-none c =
    none_anyway c.from_residual.result
    (λ (r : Rect) (m : IsMeetOfThree c.args.a c.args.b c.args.c r).
    c.in_err-shared.ensures.none (corner_of r) (three_first c.args.a c.args.b c.args.c r (corner_of r) m (has_corner r)) (three_second c.args.a c.args.b c.args.c r (corner_of r) m (has_corner r)))

pub returns-clause-some : goal.returns-clause-some
returns-clause-some c =
    IfSome_then c.meet-2.result c.meet-2.ensures.some (λ r m. record { shared = c.in_ok-shared.shared; of_two = c.in_ok-shared.ensures.some; of_all = m })

pub returns-clause-none : goal.returns-clause-none
returns-clause-none c =
    none_then c.meet-2.result
    (λ n (r : Rect) (m : IsMeetOfThree c.args.a c.args.b c.args.c r).
    n (corner_of r)
    (c.in_ok-shared.ensures.some.all (corner_of r) (three_first c.args.a c.args.b c.args.c r (corner_of r) m (has_corner r)) (three_second c.args.a c.args.b c.args.c r (corner_of r) m (has_corner r)))
    (three_third c.args.a c.args.b c.args.c r (corner_of r) m (has_corner r)))
    c.meet-2.ensures.none
