use Rattle.std.proofs.Common.{All, take}
use Rattle.board_model.specs.declared.made.Leg.{Leg}
use Rattle.board_model.specs.Shapes.{place_of, end_of}
use Rattle.board_model.specs.WellFormed.{IsPlace}
use Rattle.replay_check.proofs.places.has_places.Given as goal

-- the ends of the legs so far are places
abbrev pub invariant-loop-leg : goal.invariant-loop-leg
invariant-loop-leg l = All (λ (leg : Leg). IsPlace (place_of (end_of leg))) (take l.leg-index l.leg-items)
