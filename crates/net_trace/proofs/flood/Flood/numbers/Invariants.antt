use Rattle.std.proofs.Common.{◌≡◌, ℕ, map, take}
use Rattle.std.specs.Prelude.{Option, unwrap_or}
use Rattle.net_trace.proofs.flood.Flood.numbers.Given as goal

-- the numbers are those of the groups so far
abbrev pub invariant-loop-group : goal.invariant-loop-group
invariant-loop-group l = l.numbers ≡ map (λ (g : Option ℕ). unwrap_or g 0) (take l.group-index l.group-items)
