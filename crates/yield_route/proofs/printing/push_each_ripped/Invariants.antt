use Rattle.std.proofs.Common.{◌≡◌, ◌++◌, take}
use Rattle.std.specs.List.{flat_map}
use Rattle.yield_route.specs.Texts.{ripped_text}
use Rattle.yield_route.proofs.printing.push_each_ripped.Given as goal

-- what was there, and the text of each so far
abbrev pub invariant-loop-one : goal.invariant-loop-one
invariant-loop-one l = l.text ≡ l.initial.text ++ flat_map (ripped_text l.board.parts) (take l.one-index l.ripped)
