use Rattle.std.proofs.Common.{◌≡◌, ◌++◌, take}
use Rattle.auto_route.specs.Texts.{rounds_text}
use Rattle.auto_route.proofs.texts.push_rounds.Given as goal

-- the rounds so far were added
abbrev pub invariant-loop-round : goal.invariant-loop-round
invariant-loop-round l = record {
  text : l.text ≡ l.fn.text ++ rounds_text l.board.parts 1 (take l.round-index l.rounds);
  number : l.number ≡ l.round-index;
}
