use Rattle.std.proofs.Common.{◌≡◌, ◌+◌, ◌*◌, length, arith, subst, sym, ◌++◌, ◌∷◌, [], ◌∙◌, ap, length-append}
use Rattle.rule_check.specs.Hulls.{AllLieIn, AreHulls, run_at}
use Rattle.rule_check.proofs.Skips.{hulls_more}
use Rattle.rule_check.proofs.hulls.hulls.Goals as goal

pub loop-place-preserved : goal.loop-place-preserved
loop-place-preserved c =
    let shapes = c.args.shapes.now in
    let size = c.args.size in
    let place = c.loop-place.place in
    let old = c.loop-place.hulls in
    let hull = c.hull.result in
    let before = c.loop-place.invariant in
    let here = subst (λ n. AllLieIn hull (run_at shapes place n)) (omega arith) c.hull.ensures in
    let one_more : length (old ++ hull ∷ []) ≡ length old + 1 = length-append old (hull ∷ []) in
    let pushed = c.in_ok-push.ensures.ok in
    record {
      inside = omega (arith, before.inside, c.loop-place-test.true);
      count = ap (λ n. n + size) before.count ∙ sym (ap (λ n. n * size) (ap length pushed ∙ one_more) ∙ omega arith);
      each = subst (AreHulls shapes size) (sym pushed) (hulls_more shapes size old place hull before.each before.count here);
    }
