use Rattle.std.proofs.Common.{◌≡◌, ◌++◌, take}
use Rattle.std.specs.List.{flat_map}
use Rattle.reply_text.specs.Texts.{routed_text}
use Rattle.reply_text.proofs.printing.push_each_routed.Given as goal

-- what was there, and the text of each so far
abbrev pub invariant-loop-routed : goal.invariant-loop-routed
invariant-loop-routed l = l.text ≡ l.initial.text ++ flat_map (routed_text l.board.parts l.quiet) (take l.routed-index l.nets)
