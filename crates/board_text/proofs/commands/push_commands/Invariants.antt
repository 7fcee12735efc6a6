use Rattle.std.proofs.Common.{◌≡◌, ◌++◌, take}
use Rattle.std.specs.List.{flat_map}
use Rattle.board_text.specs.Spelled.{command_line}
use Rattle.board_text.proofs.commands.push_commands.Given as goal

-- what was there, and the line of each so far
abbrev pub invariant-loop-command : goal.invariant-loop-command
invariant-loop-command l = l.text ≡ l.initial.text ++ flat_map (command_line l.board.parts) (take l.command-index l.commands)
