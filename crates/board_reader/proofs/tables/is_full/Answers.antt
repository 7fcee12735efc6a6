use Rattle.std.proofs.Common.{◌≡◌, true, arith, ◌∙◌}
use Rattle.std.proofs.lemmas.Grind.{common_steps}
use Rattle.board_reader.specs.Tables.{is_full_row}
use Rattle.board_reader.proofs.Ranges.{list_all-next}
use Rattle.board_reader.proofs.tables.is_full.Goals as goal

pub loop-row-preserved : goal.loop-row-preserved
loop-row-preserved g c =
    let full : is_full_row c.args.entries.now c.args.columns c.loop-row.row ≡ true = grind (arith, common_steps) in
    list_all-next _ c.loop-row.row c.args.rows c.loop-row-test.true full ∙ c.loop-row.invariant
