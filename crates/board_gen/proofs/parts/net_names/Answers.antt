use Rattle.std.proofs.Common.{◌+◌, ◌-◌, ◌++◌, ◌∷◌, [], ◌∙◌, ap, map}
use Rattle.std.specs.List.{range_with_len}
use Rattle.board_gen.specs.Generated.{net_name_of}
use Rattle.board_gen.proofs.Counting.{map-next}
use Rattle.board_gen.proofs.parts.net_names.Goals as goal

pub loop-i-preserved : goal.loop-i-preserved
loop-i-preserved c =
    let next = c.loop-i.i + 1 in
    let rest = map net_name_of (range_with_len next (c.args.n + 1 - next)) in
    ap (λ l. l ++ rest) (c.in_ok-push.ensures.ok ∙ ap (λ x. c.loop-i.names ++ x ∷ []) c.in_ok-numbered.ensures)
    ∙ (map-next net_name_of c.loop-i.i (c.args.n + 1) c.loop-i.names c.loop-i-test.true ∙ c.loop-i.invariant)
