use Rattle.std.proofs.Common.{◌+◌, ◌-◌, ◌++◌, ◌∙◌, ap, map}
use Rattle.std.specs.List.{range_with_len}
use Rattle.board_text.specs.Spelled.{class_at}
use Rattle.board_gen.proofs.Counting.{map-next}
use Rattle.board_gen.proofs.parts.net_classes.Goals as goal

pub loop-i-preserved : goal.loop-i-preserved
loop-i-preserved c =
    let next = c.loop-i._i + 1 in
    let rest = map (λ i. class_at 0) (range_with_len next (c.args.n + 1 - next)) in
    ap (λ l. l ++ rest) c.in_ok-push.ensures.ok
    ∙ (map-next (λ i. class_at 0) c.loop-i._i (c.args.n + 1) c.loop-i.classes c.loop-i-test.true ∙ c.loop-i.invariant)
