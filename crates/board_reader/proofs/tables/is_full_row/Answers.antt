use Rattle.std.proofs.Common.{◌≡◌, true, arith, ◌∙◌}
use Rattle.std.specs.Prelude.{is_some}
use Rattle.std.proofs.lemmas.Grind.{common_steps}
use Rattle.board_reader.specs.Tables.{value_at}
use Rattle.board_reader.proofs.Ranges.{list_all-next}
use Rattle.board_reader.proofs.tables.is_full_row.Goals as goal

pub loop-column-preserved : goal.loop-column-preserved
loop-column-preserved g c =
    let given : is_some (value_at c.args.entries.now c.args.row c.loop-column.column) ≡ true = grind (arith, common_steps) in
    list_all-next _ c.loop-column.column c.args.columns c.loop-column-test.true given ∙ c.loop-column.invariant
