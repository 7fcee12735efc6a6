-- What a list of entries gains when some are added at its end.
use Rattle.std.specs.Prelude.{◌≡◌, ◌⊎◌, List, Contains}
use Rattle.plane_core.specs.declared.strips.Strip.{Strip}
use Rattle.route_law.specs.declared.certs.Entry.{Entry}
use Rattle.route_law.specs.declared.certs.Origin.{Origin}
use Rattle.route_law.specs.Moves.{Arrival, arrival_of}
use Rattle.strip_moves.specs.Listed.{HasArrival}

-- the entry has this origin, and is one of the wanted arrivals
pub record IsWantedFrom (origin : Origin) (IsWanted : Arrival → Type 0) (e : Entry) : Type 0 where
  pub from : e.origin ≡ origin
  pub wanted : IsWanted (arrival_of e)

-- beside the old entries the new list has exactly the wanted arrivals, each with this origin
pub record Gains (old new : List Entry) (origin : Origin) (IsWanted : Arrival → Type 0) : Type 0 where
  pub kept : (e : Entry) → Contains old e → Contains new e
  pub each : (e : Entry) → Contains new e → Contains old e ⊎ IsWantedFrom origin IsWanted e
  pub all : (a : Arrival) → IsWanted a → HasArrival new origin a

-- the arrival comes from one of the strips
pub record IsFromOneOf (strips : List Strip) (IsFrom : Strip → Arrival → Type 0) (a : Arrival) : Type 0 where
  pub strip : Strip
  pub listed : Contains strips strip
  pub from : IsFrom strip a
