use Rattle.std.proofs.Common.{◌≡◌, ◌++◌, take, true}
use Rattle.std.specs.List.{flat_map}
use Rattle.reply_text.specs.Texts.{routed_text}
use Rattle.auto_route.proofs.texts.push_nets.Given as goal

-- what came of the nets so far was added
abbrev pub invariant-loop-routed : goal.invariant-loop-routed
invariant-loop-routed l = l.text ≡ l.fn.text ++ flat_map (routed_text l.board.parts true) (take l.routed-index l.round)
