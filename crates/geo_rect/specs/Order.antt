-- That what lies round a number, and the number alone, is in order, which an interval keeps.
use Rattle.std.proofs.Common.{ℤ, pos, ◌+ℤ◌, ◌-ℤ◌, ◌≤ℤ◌, arith}
use Rattle.std.proofs.lemmas.Int.{ints}
use Rattle.std.specs.Int.RustNames.{unsigned_abs}

pub around-ordered : (c h : ℤ) → (c -ℤ pos (unsigned_abs h)) ≤ℤ (c +ℤ pos (unsigned_abs h))
around-ordered c h = omega (arith, ints)

pub just-ordered : (v : ℤ) → v ≤ℤ v
just-ordered v = omega (arith, ints)
