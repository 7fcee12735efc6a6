use Rattle.std.proofs.Common.{string_bytes, ◌∙◌}
use Rattle.board_parts.proofs.NameTables.{name_added}
use Rattle.board_parts.proofs.name_index.put_names.Goals as goal

pub loop-name-preserved : goal.loop-name-preserved
loop-name-preserved c =
    name_added string_bytes c.loop-name.table.keys c.insert.new.self.keys c.in_ok-from_str.field-0 c.args.names.now c.loop-name.name-index c.name-item.result c.requires.apart c.loop-name-test.true c.name-item.is (c.in_ok-from_str.ensures.ok ∙ c.as_str.ensures) c.loop-name.invariant c.in_ok-insert.ensures.keys
