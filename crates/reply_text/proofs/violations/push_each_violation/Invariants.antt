use Rattle.std.proofs.Common.{◌≡◌, ◌++◌, take}
use Rattle.std.specs.List.{flat_map}
use Rattle.reply_text.specs.Texts.{violation_text}
use Rattle.reply_text.proofs.violations.push_each_violation.Given as goal

-- what was there, and the text of each so far
abbrev pub invariant-loop-violation : goal.invariant-loop-violation
invariant-loop-violation l = l.text ≡ l.initial.text ++ flat_map (violation_text l.board.parts) (take l.violation-index l.found)
