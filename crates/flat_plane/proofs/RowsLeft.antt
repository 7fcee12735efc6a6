-- The rows that are left grow fewer.
use Rattle.std.proofs.Common.{◌<◌, ℤ, pos, negsuc, ◌-ℤ◌, ◌≤ℤ◌, ◌<ℤ◌, ◌≡◌, arith}
use Rattle.std.specs.Int.RustNames.{unsigned_abs}
use Rattle.std.proofs.lemmas.Int.{ints, clamps}
use Rattle.geo_rect.specs.declared.shapes.Interval.{Interval}
use Rattle.flat_plane.specs.Painting.{IsPartAfter}

abs_smaller : (a b : ℤ) → pos 0 ≤ℤ a → a <ℤ b → unsigned_abs a < unsigned_abs b
abs_smaller (pos m) (pos n) p q = omega (arith, ints)
abs_smaller (pos m) (negsuc n) p q = absurd (omega (arith, ints))
abs_smaller (negsuc m) b p q = absurd (omega (arith, ints))

pub rows_fewer : (rest band next : Interval) → band.low ≡ rest.low → IsPartAfter rest band next → unsigned_abs (next.high -ℤ next.low) < unsigned_abs (rest.high -ℤ rest.low)
rows_fewer rest band next e is =
    let l = is.low in let h = is.high in let o1 = rest.ordered in let o2 = band.ordered in let o3 = next.ordered in
    abs_smaller (next.high -ℤ next.low) (rest.high -ℤ rest.low) (omega (arith, ints, clamps)) (omega (arith, ints, clamps))
