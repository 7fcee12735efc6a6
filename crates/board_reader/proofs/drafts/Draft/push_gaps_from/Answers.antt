use Rattle.std.proofs.Common.{◌≡◌, ◌∙◌, ap, sym, subst, arith, ◌++◌, ◌∷◌, [], ◌+◌, ◌-◌, map, w32}
use Rattle.std.specs.List.{range_with_len}
use Rattle.std.proofs.lemmas.Int.{ints}
use mir.Val.{to_z, of_z}
use Rattle.board_parts.specs.Rules.{IsMeasure}
use Rattle.board_reader.specs.Gaps.{gap_between}
use Rattle.board_reader.proofs.PairGaps.{gap-measure}
use Rattle.board_reader.proofs.Ranges.{map-next}
use Rattle.board_reader.proofs.drafts.Draft.push_gaps_from.Goals as goal

pub loop-other-preserved : goal.loop-other-preserved
loop-other-preserved c =
    let rules = c.args.self.now.rules in
    let clears = c.args.self.now.clears in
    let gap = gap_between rules clears c.args.layer c.args.one in
    let other = c.loop-other.other in
    let rest = map gap (range_with_len (other + 1) (c.args.classes - (other + 1))) in
    let measure : IsMeasure c.gap_between.result = subst IsMeasure (sym c.gap_between.ensures) (gap-measure rules clears c.args.layer c.args.one other c.requires.rules c.requires.clears) in
    let pushed : to_z w32 (of_z w32 c.gap_between.result) ≡ gap other = omega (arith, ints, measure.from, measure.to) ∙ c.gap_between.ensures in
    ap (λ l. l ++ rest) c.in_ok-push.ensures.ok
    ∙ (ap (λ v. (c.loop-other.list ++ v ∷ []) ++ rest) pushed
    ∙ (map-next gap other c.args.classes c.loop-other.list c.loop-other-test.true ∙ c.loop-other.invariant))
