use Rattle.std.proofs.Common.{◌≡◌, ◌++◌, take}
use Rattle.std.specs.List.{flat_map}
use Rattle.reply_text.specs.Texts.{entry_text}
use Rattle.reply_text.proofs.certs.push_entries.Given as goal

-- what was there, and the text of each so far
abbrev pub invariant-loop-entry : goal.invariant-loop-entry
invariant-loop-entry l = l.text ≡ l.initial.text ++ flat_map (entry_text l.board.parts) (take l.entry-index l.entries)
