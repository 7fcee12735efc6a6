use Rattle.std.proofs.Common.{◌≡◌, length}
use Rattle.auto_route.specs.Tours.{IsTour}
use Rattle.auto_route.proofs.tours.play_rounds.Given as goal

-- so many rounds were played
abbrev pub invariant-loop-number : goal.invariant-loop-number
invariant-loop-number g l = record {
  board : l.session.parts ≡ l.fn.s.parts;
  tour : IsTour l.fn.s.parts l.tour;
  count : length l.tour.rounds ≡ l._number;
}
