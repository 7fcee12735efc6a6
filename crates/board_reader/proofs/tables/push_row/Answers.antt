use Rattle.std.proofs.Common.{◌∙◌}
use Rattle.board_reader.specs.Tables.{value_at}
use Rattle.board_reader.proofs.Ranges.{row-given, row-none}
use Rattle.board_reader.proofs.tables.push_row.Goals as goal
use Rattle.board_reader.proofs.tables.push_row.Goals.{in-Some+in_ok-push, in_default}

pub loop-column-preserved : goal.loop-column-preserved
loop-column-preserved g c =
    elim c.match-value_at.branch [
      | in-Some+in_ok-push w ↦
          row-given (value_at c.args.entries.now c.args.row) c.loop-column.column c.args.columns c.loop-column.list c.match-value_at.list _ w.in-Some.value
          (w.list-is ∙ w.in_ok-push.ensures.ok) c.loop-column-test.true w.in-Some.ensures c.loop-column.invariant
      | in_default w ↦
          row-none (value_at c.args.entries.now c.args.row) c.loop-column.column c.args.columns c.loop-column.list c.match-value_at.list _
          w.list-is c.loop-column-test.true w.in_default.ensures c.loop-column.invariant
    ]
