use Rattle.std.proofs.Common.{◌++◌, ◌∙◌, ap, ◌+◌, ◌-◌}
use Rattle.std.specs.List.{range_with_len, flat_map}
use Rattle.board_reader.specs.Tables.{row_of}
use Rattle.board_reader.proofs.Ranges.{flat_map-next}
use Rattle.board_reader.proofs.tables.lay_out.Goals as goal

pub loop-row-preserved : goal.loop-row-preserved
loop-row-preserved g c =
    let rest = flat_map (row_of c.args.entries.now c.args.columns) (range_with_len (c.loop-row.row + 1) (c.args.rows - (c.loop-row.row + 1))) in
    ap (λ l. l ++ rest) c.in_ok-push_row.ensures
    ∙ (flat_map-next (row_of c.args.entries.now c.args.columns) c.loop-row.row c.args.rows c.loop-row.list c.loop-row-test.true ∙ c.loop-row.invariant)
