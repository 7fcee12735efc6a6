-- Lists of names, no two of them alike.
use Rattle.std.proofs.Common.{◌≡◌, ℕ, ◌+◌, ◌-◌, ◌<◌, ◌≤◌, List, length, get_or, drop, Contains, ap, sym, ◌∙◌, ◌⊎◌, inl, inr, arith, length-drop, get_or-drop}
use Rattle.std.proofs.lemmas.Bool.{cases_lt}
use Rattle.std.proofs.lemmas.List.{get_or_default}

-- one more item differs from all later ones, where it is not among them
pub apart_more : {X : Type 0} (xs : List X) (i : ℕ) (x : X) → i < length xs → x ≡ get_or xs i x → (Contains (drop (i + 1) xs) x → ⊥) → ((a b : ℕ) (d : X) → a < i → a < b → b < length xs → get_or xs a d ≡ get_or xs b d → ⊥) → (a b : ℕ) (d : X) → a < i + 1 → a < b → b < length xs → get_or xs a d ≡ get_or xs b d → ⊥
apart_more {X} xs i x lt is none before a b d p q r same = by (cases_lt a i)
  where
    at : a ≡ i → ⊥
    at e =
        let k : (i + 1) + (b - (i + 1)) ≡ b = omega arith in
        let here : get_or xs a d ≡ x = ap (λ n. get_or xs n d) e ∙ get_or_default xs i d x lt ∙ sym is in
        none (b - (i + 1), omega (arith, length-drop (i + 1) xs), get_or-drop (i + 1) xs (b - (i + 1)) x ∙ ap (λ n. get_or xs n x) k ∙ get_or_default xs b x d r ∙ sym same ∙ here)

    by : (a < i) ⊎ (i ≤ a) → ⊥
    by (inl h) = before a b d h q r same
    by (inr h) = at (omega arith)
