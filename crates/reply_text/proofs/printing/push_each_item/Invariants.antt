use Rattle.std.proofs.Common.{◌≡◌, ◌++◌, take}
use Rattle.std.specs.List.{flat_map}
use Rattle.reply_text.specs.Texts.{item_text}
use Rattle.reply_text.proofs.printing.push_each_item.Given as goal

-- what was there, and the text of each so far
abbrev pub invariant-loop-item : goal.invariant-loop-item
invariant-loop-item l = l.text ≡ l.initial.text ++ flat_map (item_text l.board.parts) (take l.item-index l.items)
