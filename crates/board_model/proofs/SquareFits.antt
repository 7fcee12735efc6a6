-- The squares of a via lie in the board where that on each layer of its span does.
use Rattle.std.proofs.Common.{◌≡◌, ℕ, suc, ℤ, pos, ◌+◌, ◌<◌, ◌≤◌, ◌≤ℤ◌, Bool, true, false, eqb, ◌⊎◌, inl, inr, length, refl, sym, ◌∙◌, ap, subst, ◌↔◌, arith}
use Rattle.std.specs.Prelude.{◌==◌, int_le}
use Rattle.std.specs.Int.{int_max}
use Rattle.std.proofs.lemmas.Bool.{cond_both, cond-true, cond-false, eq-eqb, eqb-true, false_from_ne_true, cases_lt, false≢true}
use Rattle.std.proofs.lemmas.Int.{ints, clamps}
use Rattle.geo_rect.specs.declared.ids.ClassId.{ClassId}
use Rattle.geo_rect.specs.declared.ids.KindId.{KindId}
use Rattle.geo_rect.specs.declared.ids.LayerId.{LayerId}
use Rattle.geo_rect.specs.declared.shapes.Point.{Point}
use Rattle.geo_rect.specs.Plane.{square}
use Rattle.geo_rect.proofs.Tests.{Decides-int_le}
use Rattle.board_parts.specs.declared.parts.BoardParts.{BoardParts}
use Rattle.board_model.specs.Labels.{IsInSpan, FitsBoard, via_plane}
use Rattle.board_parts.specs.Lookup.{kind_of, pad_of, inner_of, pad_on}
use Rattle.board_parts.specs.Rules.{IsBoard, IsKind, IsMeasure, IsOnBoard}
use Rattle.board_model.proofs.MadeShapes.{kind_is, pad_is, inner_is}

smaller_square : (w h : ℤ) (p : Point) (a c : ℤ) → IsMeasure a → a ≤ℤ c → IsOnBoard w h (square p c) → IsOnBoard w h (square p a)
smaller_square w h p a c m l o =
    let f = m.from in
    let left = o.left in
    let below = o.below in
    let right = o.right in
    let above = o.above in
    record {
      left = omega (arith, ints, clamps, l, f, left);
      below = omega (arith, ints, clamps, l, f, below);
      right = omega (arith, ints, clamps, l, f, right);
      above = omega (arith, ints, clamps, l, f, above);
    }

first_le_max : (x y : ℤ) → x ≤ℤ int_max x y
first_le_max x y = omega (arith, ints, clamps)

second_le_max : (x y : ℤ) → y ≤ℤ int_max x y
second_le_max x y = omega (arith, ints, clamps)

other_way : (x y : ℤ) → (x ≤ℤ y → ⊥) → y ≤ℤ x
other_way x y n = grind (arith, ints, n)

-- what holds of both numbers holds of the greater
max_case : (P : ℤ → Type 0) (x y : ℤ) → P x → P y → P (int_max x y)
max_case P x y a b = by (int_le x y) refl
  where
    second : x ≤ℤ y → int_max x y ≡ y
    second l = omega (arith, ints, clamps, l)

    first : y ≤ℤ x → int_max x y ≡ x
    first l = omega (arith, ints, clamps, l)

    by : (t : Bool) → int_le x y ≡ t → P (int_max x y)
    by true e = subst P (sym (second ((Decides-int_le x y).0 e))) b
    by false e = subst P (sym (first (other_way x y (λ l. false≢true (sym e ∙ (Decides-int_le x y).1 l))))) a

module _ (b : BoardParts) (h : IsBoard b) (k : KindId) (c : ClassId) (kk : k.0 < length b.kinds) (cc : c.0 < length b.classes) (p : Point) where
  abbrev OnLayer : LayerId → Type 0
  OnLayer l = IsOnBoard b.width b.height (square p (pad_on b k c l))

  is_kind : IsKind (length b.layers) (kind_of b k)
  is_kind = kind_is b h k kk

  pad_on-first : pad_on b k c (kind_of b k).first ≡ pad_of b k c
  pad_on-first = cond-true _ _ _ (eq-eqb (kind_of b k).first.0 (kind_of b k).first.0 refl)

  other : (m n : ℕ) → (m ≡ n → ⊥) → eqb m n ≡ false
  other m n d = false_from_ne_true (eqb m n) (λ e. d (eqb-true m n e))

  pad_on-between : (l : LayerId) → (kind_of b k).first.0 < l.0 → l.0 < (kind_of b k).last.0 → pad_on b k c l ≡ inner_of b k c
  pad_on-between l f t =
      cond-false _ _ _ (other l.0 (kind_of b k).first.0 (λ e. omega (arith, f, e))) ∙ cond-false _ _ _ (other l.0 (kind_of b k).last.0 (λ e. omega (arith, t, e)))

  fits_each : FitsBoard b (via_plane b k c) p → (l : LayerId) → IsInSpan (kind_of b k) l → OnLayer l
  fits_each f l s =
      let pad = smaller_square b.width b.height p (pad_of b k c) _ (pad_is b h k c) (first_le_max (pad_of b k c) (inner_of b k c)) f in
      let inner = smaller_square b.width b.height p (inner_of b k c) _ (inner_is b h k c) (second_le_max (pad_of b k c) (inner_of b k c)) f in
      let Fits : ℤ → Type 0 = λ z. IsOnBoard b.width b.height (square p z) in
      cond_both (l.0 == (kind_of b k).first.0) _ _ Fits (λ e. pad) (λ e. cond_both (l.0 == (kind_of b k).last.0) _ _ Fits (λ g. pad) (λ g. inner))

  each_fits : ((l : LayerId) → IsInSpan (kind_of b k) l → OnLayer l) → FitsBoard b (via_plane b k c) p
  each_fits each =
      let first : ℕ = (kind_of b k).first.0 in
      let last : ℕ = (kind_of b k).last.0 in
      let order : first < last = is_kind.order in
      let Fits : ℤ → Type 0 = λ z. IsOnBoard b.width b.height (square p z) in
      let pad : Fits (pad_of b k c) = subst Fits pad_on-first (each (kind_of b k).first (record { from = omega arith; to = omega (arith, order) })) in
      let next : LayerId = record { 0 = first + 1 } in
      let between : first + 1 < last → Fits (inner_of b k c) = λ t. subst Fits (pad_on-between next (omega arith) t) (each next (record { from = omega arith; to = omega (arith, t) })) in
      let plain : last ≤ first + 1 → Fits (inner_of b k c) = λ t. subst Fits (sym (h.plain k c kk cc (omega (arith, t, order)))) pad in
      max_case Fits (pad_of b k c) (inner_of b k c) pad (elim (cases_lt (first + 1) last) [ inl t ↦ between t | inr t ↦ plain t ])

  pub squares_fit : FitsBoard b (via_plane b k c) p ↔ ((l : LayerId) → IsInSpan (kind_of b k) l → OnLayer l)
  squares_fit = (fits_each, each_fits)
