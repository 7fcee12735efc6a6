use Rattle.std.proofs.Common.{◌+◌, ◌-◌, ◌++◌, ◌∙◌, ap}
use Rattle.std.specs.List.{flat_map, range_with_len}
use Rattle.board_text.specs.Spelled.{inner_line, class_at}
use Rattle.board_reader.proofs.Ranges.{flat_map-next}
use Rattle.board_text.proofs.vias.push_kind_inners.Goals as goal

pub loop-class-preserved : goal.loop-class-preserved
loop-class-preserved c =
    let next = c.loop-class.class + 1 in
    let rest = flat_map (λ k. inner_line c.args.board.now.parts c.args.k (class_at k)) (range_with_len next (c.classes-classes.result - next)) in
    ap (λ l. l ++ rest) c.in_ok-push_inner.ensures
    ∙ (flat_map-next (λ k. inner_line c.args.board.now.parts c.args.k (class_at k)) c.loop-class.class c.classes-classes.result c.loop-class.text c.loop-class-test.true ∙ c.loop-class.invariant)
