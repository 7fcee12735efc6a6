use Rattle.std.proofs.Common.{◌++◌, ◌∙◌, ap, ◌+◌, ◌-◌}
use Rattle.std.specs.List.{range_with_len, flat_map}
use Rattle.board_reader.specs.Gaps.{gaps_on}
use Rattle.board_reader.proofs.Ranges.{flat_map-next}
use Rattle.board_reader.proofs.drafts.Draft.push_gaps.Goals as goal

pub loop-layer-preserved : goal.loop-layer-preserved
loop-layer-preserved c =
    let gaps = gaps_on c.args.self.now.rules c.args.self.now.clears c.args.classes in
    let rest = flat_map gaps (range_with_len (c.loop-layer.layer + 1) (c.args.layers - (c.loop-layer.layer + 1))) in
    ap (λ l. l ++ rest) c.in_ok-push_gaps_on.ensures
    ∙ (flat_map-next gaps c.loop-layer.layer c.args.layers c.loop-layer.list c.loop-layer-test.true ∙ c.loop-layer.invariant)
