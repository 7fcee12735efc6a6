-- What is told of a net to which a session was to give connections back.
use Rattle.std.specs.Prelude.{ℕ, ◌+◌, ◌<◌, ⊤}
use Rattle.geo_rect.specs.declared.ids.NetId.{NetId}
use Rattle.session_core.specs.declared.adopts.Adopted.{Adopted}
use Rattle.session_core.specs.declared.adopts.Adopted.TheVariants as adopted
use Rattle.yield_route.specs.declared.told.Back.{Back}
use Rattle.yield_route.specs.declared.told.Back.TheVariants.{Kept, Out}

-- that all of so many connections are made, or the number from 1 of the one that was refused
abbrev pub back_of : NetId → ℕ → Adopted → Back
back_of n count adopted.Kept = Kept n count
back_of n count (adopted.Refused i k) = Out n (i + 1)

-- the connection that was refused, if one was, is one of so many
abbrev pub IsNumbered : ℕ → Adopted → Type 0
IsNumbered count adopted.Kept = ⊤
IsNumbered count (adopted.Refused i k) = i < count
