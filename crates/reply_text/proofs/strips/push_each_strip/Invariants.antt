use Rattle.std.proofs.Common.{◌≡◌, ◌++◌, take}
use Rattle.std.specs.List.{flat_map}
use Rattle.reply_text.specs.Texts.{strip_text}
use Rattle.reply_text.proofs.strips.push_each_strip.Given as goal

-- what was there, and the text of each so far
abbrev pub invariant-loop-strip : goal.invariant-loop-strip
invariant-loop-strip l = l.text ≡ l.initial.text ++ flat_map (strip_text l.board.parts) (take l.strip-index l.strips)
