-- What holds of each number below another, one number at a time.
use Rattle.std.proofs.Common.{◌≡◌, ℕ, ◌+◌, ◌<◌, ◌⊎◌, inl, inr, subst, arith}
use Rattle.std.proofs.lemmas.Bool.{cases_lt}

pub below_more : (P : ℕ → Type 0) (i : ℕ) → ((n : ℕ) → n < i → P n) → P i → (n : ℕ) → n < i + 1 → P n
below_more P i before now n l = elim (cases_lt n i) [
  | inl t ↦ before n t
  | inr t ↦ let same : i ≡ n = omega (arith, l, t) in subst P same now
]
