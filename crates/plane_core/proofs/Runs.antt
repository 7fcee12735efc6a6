-- One row: two maximal runs that share a number are one.
use Rattle.std.proofs.Common.{ℤ, pos, ◌-ℤ◌, ◌+ℤ◌, ◌≤ℤ◌, ◌≡◌, sym, ◌∙◌, arith}
use Rattle.std.proofs.lemmas.Int.{ints, by_lt_z}
use Rattle.geo_rect.specs.declared.ids.Label.{Label}
use Rattle.geo_rect.specs.declared.shapes.Interval.{Interval}
use Rattle.geo_rect.specs.Axis.{HasNumber, LiesWithin}
use Rattle.plane_core.specs.Strips.{IsRun}

pub within_has : (a b : Interval) (x : ℤ) → LiesWithin a b → HasNumber a x → HasNumber b x
within_has a b x w h = record {
  from = let p = w.from in let q = h.from in omega (arith, ints);
  to = let p = w.to in let q = h.to in omega (arith, ints);
}

starts_no_later : (d : Interval) (f : ℤ → Label) (a b : Interval) (m : Label) (x : ℤ) → IsRun d f a m → IsRun d f b m → HasNumber a x → HasNumber b x → b.low ≤ℤ a.low
starts_no_later d f a b m x ra rb ha hb =
    by_lt_z a.low b.low
    (λ less.
    let before : HasNumber a (b.low -ℤ pos 1) = (let p = hb.from in let q = ha.to in record { from = omega (arith, ints); to = omega (arith, ints) }) in
    absurd (rb.ends_left (within_has a d _ ra.inside before) (ra.same _ before)))
    (λ h. h)

ends_no_sooner : (d : Interval) (f : ℤ → Label) (a b : Interval) (m : Label) (x : ℤ) → IsRun d f a m → IsRun d f b m → HasNumber a x → HasNumber b x → a.high ≤ℤ b.high
ends_no_sooner d f a b m x ra rb ha hb =
    by_lt_z b.high a.high
    (λ less.
    let after : HasNumber a (b.high +ℤ pos 1) = (let p = hb.to in let q = ha.from in record { from = omega (arith, ints); to = omega (arith, ints) }) in
    absurd (rb.ends_right (within_has a d _ ra.inside after) (ra.same _ after)))
    (λ h. h)

pub run_labels : (d : Interval) (f : ℤ → Label) (a b : Interval) (m n : Label) (x : ℤ) → IsRun d f a m → IsRun d f b n → HasNumber a x → HasNumber b x → m ≡ n
run_labels d f a b m n x ra rb ha hb = sym (ra.same x ha) ∙ rb.same x hb

pub run_starts : (d : Interval) (f : ℤ → Label) (a b : Interval) (m : Label) (x : ℤ) → IsRun d f a m → IsRun d f b m → HasNumber a x → HasNumber b x → a.low ≡ b.low
run_starts d f a b m x ra rb ha hb =
    let p = starts_no_later d f a b m x ra rb ha hb in let q = starts_no_later d f b a m x rb ra hb ha in omega (arith, ints)

pub run_ends : (d : Interval) (f : ℤ → Label) (a b : Interval) (m : Label) (x : ℤ) → IsRun d f a m → IsRun d f b m → HasNumber a x → HasNumber b x → a.high ≡ b.high
run_ends d f a b m x ra rb ha hb =
    let p = ends_no_sooner d f a b m x ra rb ha hb in let q = ends_no_sooner d f b a m x rb ra hb ha in omega (arith, ints)
