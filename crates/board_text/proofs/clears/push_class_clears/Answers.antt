use Rattle.std.proofs.Common.{◌+◌, ◌-◌, ◌++◌, ◌∙◌, ap}
use Rattle.std.specs.List.{flat_map, range_with_len}
use Rattle.board_text.specs.Spelled.{clear_line, class_at}
use Rattle.board_reader.proofs.Ranges.{flat_map-next}
use Rattle.board_text.proofs.clears.push_class_clears.Goals as goal

pub loop-second-preserved : goal.loop-second-preserved
loop-second-preserved c =
    let next = c.loop-second.second + 1 in
    let rest = flat_map (λ k. clear_line c.args.board.now.parts c.args.l c.args.c (class_at k)) (range_with_len next (c.classes-classes.result - next)) in
    ap (λ l. l ++ rest) c.in_ok-push_clear.ensures
    ∙ (flat_map-next (λ k. clear_line c.args.board.now.parts c.args.l c.args.c (class_at k)) c.loop-second.second c.classes-classes.result c.loop-second.text c.loop-second-test.true ∙ c.loop-second.invariant)
