use Rattle.std.proofs.Common.{◌≡◌, ◌++◌, take}
use Rattle.std.specs.List.{flat_map}
use Rattle.reply_text.specs.Texts.{made_text}
use Rattle.reply_text.proofs.routes.push_each_made.Given as goal

-- what was there, and the text of each so far
abbrev pub invariant-loop-made : goal.invariant-loop-made
invariant-loop-made l = l.text ≡ l.initial.text ++ flat_map (made_text l.board.parts l.quiet) (take l.made-index l.all)
