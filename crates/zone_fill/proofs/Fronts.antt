-- The front with which a flood begins, mark by mark.
use Rattle.std.proofs.Common.{◌≡◌, ℕ, ◌+◌, ◌<◌, ◌≤◌, ◌≢◌, Bool, false, List, [], ◌∷◌, ◌++◌, length, get_or, ap, sym, ◌∙◌, subst, ◌⊎◌, inl, inr, arith}
use Rattle.std.specs.Prelude.{Contains}
use Rattle.std.proofs.lemmas.Bool.{cases_eq, false≢true}
use Rattle.std.proofs.lemmas.List.Elements.{Contains-append_left, Contains-push, Contains-push_cases}
use Rattle.plane_core.proofs.Members.{has_none}
use Rattle.zone_fill.specs.Flooding.{IsMarked, IsFrontOf}
use Rattle.zone_fill.proofs.Floods.{marked_within}

-- the front lists exactly those of the first n parts that are marked
pub record IsFrontUpTo (marks : List Bool) (n : ℕ) (front : List ℕ) : Type 0 where
  pub marked : (i : ℕ) → Contains front i → IsMarked marks i
  pub all : (i : ℕ) → i < n → IsMarked marks i → Contains front i

module _ (marks : List Bool) where
  pub front_none : IsFrontUpTo marks 0 []
  front_none = record { marked = λ i h. absurd (has_none i h); all = λ i l h. absurd (omega (arith, l)) }

  pub front_more : (n : ℕ) (front : List ℕ) → IsMarked marks n → IsFrontUpTo marks n front → IsFrontUpTo marks (n + 1) (front ++ n ∷ [])
  front_more n front m f = record { marked = λ i h. each i (Contains-push_cases front n i h); all = λ i l h. one i l h (cases_eq i n) }
    where
      each : (i : ℕ) → Contains front i ⊎ (n ≡ i) → IsMarked marks i
      each i (inl k) = f.marked i k
      each i (inr e) = subst (IsMarked marks) e m

      one : (i : ℕ) → i < n + 1 → IsMarked marks i → (i ≡ n) ⊎ (i ≢ n) → Contains (front ++ n ∷ []) i
      one i l h (inl e) = subst (Contains (front ++ n ∷ [])) (sym e) (Contains-push front n)
      one i l h (inr d) = Contains-append_left front (n ∷ []) i (f.all i (omega (arith, l, d)) h)

  pub front_same : (n : ℕ) (front : List ℕ) → get_or marks n false ≡ false → IsFrontUpTo marks n front → IsFrontUpTo marks (n + 1) front
  front_same n front m f = record { marked = f.marked; all = λ i l h. one i l h (cases_eq i n) }
    where
      one : (i : ℕ) → i < n + 1 → IsMarked marks i → (i ≡ n) ⊎ (i ≢ n) → Contains front i
      one i l h (inl e) = absurd (false≢true (sym m ∙ ap (λ k. get_or marks k false) (sym e) ∙ h))
      one i l h (inr d) = f.all i (omega (arith, l, d)) h

  pub front_whole : (n : ℕ) (front : List ℕ) → length marks ≤ n → IsFrontUpTo marks n front → IsFrontOf marks front
  front_whole n front l f = record { marked = f.marked; all = λ i h. f.all i (let k = marked_within marks i h in omega (arith, k, l)) h }
