use Rattle.std.proofs.Common.{◌≡◌, ◌++◌, true}
use Rattle.std.specs.List.{flat_map}
use Rattle.geo_rect.specs.declared.ids.NetId.{NetId}
use Rattle.reply_text.specs.Texts.{reply_text}
use Rattle.auto_route.specs.Texts.{show_of}
use Rattle.auto_route.proofs.Ordering.{nets_before}
use Rattle.auto_route.proofs.texts.push_shows.Given as goal

-- the nets before this one are shown
abbrev pub invariant-loop-number : goal.invariant-loop-number
invariant-loop-number l = l.text ≡ l.fn.text ++ flat_map (λ (n : NetId). reply_text l.board.parts true (show_of l.board.parts l.made.lists n)) (nets_before l.number)
