use Rattle.std.proofs.Common.{◌≡◌, ◌++◌, take}
use Rattle.std.specs.List.{flat_map}
use Rattle.reply_text.specs.Texts.{leg_text}
use Rattle.reply_text.proofs.conns.push_legs.Given as goal

-- what was there, and the text of each so far
abbrev pub invariant-loop-leg : goal.invariant-loop-leg
invariant-loop-leg l = l.text ≡ l.initial.text ++ flat_map (leg_text l.board.parts) (take l.leg-index l.legs)
