use Rattle.std.proofs.Common.{◌+◌, ◌-◌, ◌++◌, ◌∙◌, ap}
use Rattle.std.specs.List.{flat_map, range_with_len}
use Rattle.board_text.specs.Spelled.{class_clear_lines, class_at}
use Rattle.board_reader.proofs.Ranges.{flat_map-next}
use Rattle.board_text.proofs.clears.push_layer_clears.Goals as goal

pub loop-first-preserved : goal.loop-first-preserved
loop-first-preserved c =
    let next = c.loop-first.first + 1 in
    let rest = flat_map (λ k. class_clear_lines c.args.board.now.parts c.args.l (class_at k)) (range_with_len next (c.classes-classes.result - next)) in
    ap (λ l. l ++ rest) c.in_ok-push_class_clears.ensures
    ∙ (flat_map-next (λ k. class_clear_lines c.args.board.now.parts c.args.l (class_at k)) c.loop-first.first c.classes-classes.result c.loop-first.text c.loop-first-test.true ∙ c.loop-first.invariant)
