use Rattle.std.proofs.Common.{◌≡◌, map, take, string_bytes}
use Rattle.board_parts.proofs.name_index.put_names.Given as goal

-- the table has the names so far
abbrev pub invariant-loop-name : goal.invariant-loop-name
invariant-loop-name l = map string_bytes l.table.keys ≡ take l.name-index l.names
