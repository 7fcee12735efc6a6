use Rattle.std.proofs.Common.{subst}
use Rattle.geo_rect.specs.declared.shapes.Rect.{Rect}
use Rattle.geo_rect.specs.Images.{IsClamped}
use Rattle.geo_rect.proofs.Clamps.{clamped_one}
use Rattle.cert_check.proofs.rects.is_clamped.Goals as goal

pub returns : goal.returns
returns c = (
  λ t. let P : Rect → Type 0 = λ r. IsClamped c.args.b c.args.e r in subst P (c.same_rect.ensures.0 t) c.clamp.ensures,
  λ h. c.same_rect.ensures.1 (clamped_one c.args.b c.args.e c.clamp.result c.args.r c.clamp.ensures h),
)
