use Rattle.std.proofs.Common.{◌≡◌, Bool, true, false, not, refl, sym, ap, ◌∙◌, to_z, of_z, w32}
use Rattle.std.proofs.lemmas.Bool.{false≢true}
use Rattle.std.proofs.lemmas.Int.{to_z-of_z}
use Rattle.geo_rect.specs.Tests.{are_too_close}
use Rattle.rule_check.proofs.Skips.{far_at}
use Rattle.rule_check.proofs.runs.is_far.Goals as goal

false_where_not : (b : Bool) → not b ≡ true → b ≡ false
false_where_not true e = absurd (false≢true e)
false_where_not false e = refl

pub returns : goal.returns
returns c b shapes bound h far =
    let hull = c.index-hulls-number.result in
    let read : to_z w32 (of_z w32 c.args.most) ≡ c.args.most = to_z-of_z w32 c.args.most c.ranges.most in
    let tested : are_too_close c.args.shape.area hull c.args.most ≡ false =
    ap (are_too_close c.args.shape.area hull) (sym read) ∙ sym c.too_close.ensures.test ∙ false_where_not c.too_close.result far in
    far_at b c.args.shape shapes c.args.size c.args.hulls.now c.args.place hull c.args.most bound h c.if-place-size-ne0.false c.if-number-hulls.false c.index-hulls-number.is tested
