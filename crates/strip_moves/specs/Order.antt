-- That the numbers from 0 to the amount of a number are in order, which an interval keeps.
use Rattle.std.proofs.Common.{ℤ, pos, ◌≤ℤ◌, arith}
use Rattle.std.proofs.lemmas.Int.{ints}
use Rattle.std.specs.Int.RustNames.{unsigned_abs}

pub upto-ordered : (n : ℤ) → pos 0 ≤ℤ pos (unsigned_abs n)
upto-ordered n = omega (arith, ints)
