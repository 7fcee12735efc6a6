-- Numbers that a list keeps as a table: row by row, or row by row of rows.
use Rattle.std.proofs.Common.{◌≡◌, ℕ, zero, suc, ◌+◌, ◌*◌, ◌<◌, ℤ, pos, List, length, get_or, All, sym, ◌∙◌, ap, subst, arith, to_z, of_z, w32}
use Rattle.std.proofs.lemmas.Int.{ints}
use Rattle.std.proofs.lemmas.List.{get_or_default}
use Rattle.std.proofs.lemmas.List.Elements.{All-get_or}
use Rattle.board_parts.specs.Rules.{IsMeasure}

-- the place of an item lies in the table
pub in_table : (a b n m : ℕ) → a < n → b < m → a * m + b < n * m
in_table a b zero m p q = absurd (omega (arith, p))
in_table zero b (suc n) m p q = omega (arith, q)
in_table (suc a) b (suc n) m p q = let r = in_table a b n m (omega (arith, p)) q in omega (arith, r)

pub read_measure : (v : ℤ) → IsMeasure v → to_z w32 (of_z w32 v) ≡ v
read_measure v h = let f = h.from in let t = h.to in omega (arith, ints, f, t)

-- two measures that are one in 32 bits are one
pub same_measure : (x y : ℤ) → IsMeasure x → IsMeasure y → of_z w32 x ≡ of_z w32 y → x ≡ y
same_measure x y h k e = sym (read_measure x h) ∙ ap (to_z w32) e ∙ read_measure y k

-- an item of a list of measures, as a number of 32 bits tells it
module _ (xs ys : List ℤ) (i j : ℕ) (each : All IsMeasure ys) (same : xs ≡ ys) (place : i ≡ j) (inside : j < length ys) where
  pub item : get_or xs i (pos 0) ≡ get_or ys j (pos 1)
  item = ap (λ zs. get_or zs i (pos 0)) same ∙ ap (λ k. get_or ys k (pos 0)) place ∙ get_or_default ys j (pos 0) (pos 1) inside

  is_measure : IsMeasure (get_or ys j (pos 1))
  is_measure = All-get_or IsMeasure ys j (pos 1) inside each

  pub measure_at : to_z w32 (of_z w32 (get_or xs i (pos 0))) ≡ get_or ys j (pos 1)
  measure_at = ap (λ v. to_z w32 (of_z w32 v)) item ∙ read_measure _ is_measure

  pub measure_at_is : IsMeasure (to_z w32 (of_z w32 (get_or xs i (pos 0))))
  measure_at_is = subst IsMeasure (sym measure_at) is_measure
