use Rattle.std.proofs.Common.{◌+◌, ◌-◌, ◌++◌, ◌∙◌, ap}
use Rattle.std.specs.List.{flat_map, range_with_len}
use Rattle.board_text.specs.Spelled.{inner_lines, kind_at}
use Rattle.board_reader.proofs.Ranges.{flat_map-next}
use Rattle.board_text.proofs.vias.push_inners.Goals as goal

pub loop-kind-preserved : goal.loop-kind-preserved
loop-kind-preserved c =
    let next = c.loop-kind.kind + 1 in
    let rest = flat_map (λ k. inner_lines c.args.board.now.parts (kind_at k)) (range_with_len next (c.kinds-kinds.result - next)) in
    ap (λ l. l ++ rest) c.in_ok-push_kind_inners.ensures
    ∙ (flat_map-next (λ k. inner_lines c.args.board.now.parts (kind_at k)) c.loop-kind.kind c.kinds-kinds.result c.loop-kind.text c.loop-kind-test.true ∙ c.loop-kind.invariant)
