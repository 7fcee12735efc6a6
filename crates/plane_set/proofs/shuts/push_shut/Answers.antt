use Rattle.std.proofs.Common.{List, sym, subst}
use Rattle.std.proofs.lemmas.Result.{on_ok_weaker}
use Rattle.geo_rect.specs.declared.shapes.Rect.{Rect}
use Rattle.plane_set.specs.Families.{rule_in}
use Rattle.plane_set.specs.Shutting.{HaveShutPoints}
use Rattle.plane_set.proofs.Shutting.{shut_more}
use Rattle.plane_set.proofs.shuts.push_shut.Goals as goal

pub returns : goal.returns
returns c =
    let rule = rule_in c.args.board.now.parts c.args.family c.args.row c.args.c in
    let old = c.args.areas.now in
    let k = c.args.keepout.now in
    let P : List Rect → Type 0 = λ new. HaveShutPoints rule k old new in
    on_ok_weaker c.push.result
    (λ e. subst P (sym e) (shut_more rule k old c.in-Some.area c.in-Some.ensures.some)) c.push.ensures.ok
