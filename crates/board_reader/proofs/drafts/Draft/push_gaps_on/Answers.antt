use Rattle.std.proofs.Common.{◌++◌, ◌∙◌, ap, ◌+◌, ◌-◌}
use Rattle.std.specs.List.{range_with_len, flat_map}
use Rattle.board_reader.specs.Gaps.{gaps_from}
use Rattle.board_reader.proofs.Ranges.{flat_map-next}
use Rattle.board_reader.proofs.drafts.Draft.push_gaps_on.Goals as goal

pub loop-one-preserved : goal.loop-one-preserved
loop-one-preserved c =
    let gaps = gaps_from c.args.self.now.rules c.args.self.now.clears c.args.classes c.args.layer in
    let rest = flat_map gaps (range_with_len (c.loop-one.one + 1) (c.args.classes - (c.loop-one.one + 1))) in
    ap (λ l. l ++ rest) c.in_ok-push_gaps_from.ensures
    ∙ (flat_map-next gaps c.loop-one.one c.args.classes c.loop-one.list c.loop-one-test.true ∙ c.loop-one.invariant)
