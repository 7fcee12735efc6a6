use Rattle.std.proofs.Common.{subst}
use Rattle.geo_rect.specs.declared.shapes.Rect.{Rect}
use Rattle.geo_rect.specs.Plane.{IsMeet}
use Rattle.cert_check.proofs.Cases.{not_true}
use Rattle.cert_check.proofs.Meets.{meet_one, meet_not_apart}
use Rattle.cert_check.proofs.rects.is_meet.Goals as goal

pub returns-in_default : goal.returns-in_default
returns-in_default c =
    (λ t. absurd (not_true t), λ m. absurd (meet_not_apart c.args.a c.args.b c.args.r c.in_default.ensures.none m))

pub returns : goal.returns
returns c = (
  λ t. let P : Rect → Type 0 = λ r. IsMeet c.args.a c.args.b r in subst P (c.same_rect.ensures.0 t) c.in-Some.ensures.some,
  λ h. c.same_rect.ensures.1 (meet_one c.args.a c.args.b c.in-Some.common c.args.r c.in-Some.ensures.some h),
)
