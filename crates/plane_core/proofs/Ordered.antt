-- Lists of strips in order: the members determine the list.
use Rattle.std.proofs.Common.{◌≡◌, refl, sym, ap, subst, List, [], ◌∷◌, ◌⊎◌, inl, inr, Contains, arith, ◌∙◌}
use Rattle.std.proofs.lemmas.Int.{ints}
use Rattle.plane_core.specs.declared.strips.Strip.{Strip}
use Rattle.plane_core.specs.Strips.{Precedes, IsInOrder}
use Rattle.plane_core.proofs.Members.{has_head, has_tail, has_cases, has_none}

pub precedes_not_back : (s t : Strip) → Precedes s t → Precedes t s → ⊥
precedes_not_back s t p q = let h = p.in_one_row q.no_higher in let k = q.in_one_row p.no_higher in omega (arith, ints)

pub precedes_not_itself : (s : Strip) → Precedes s s → ⊥
precedes_not_itself s p = precedes_not_back s s p p

pub precedes_on : (s t u : Strip) → Precedes s t → Precedes t u → Precedes s u
precedes_on s t u p q = record {
  no_higher = let h = p.no_higher in let k = q.no_higher in omega (arith, ints);
  in_one_row = λ back.
      let h = p.no_higher in let k = q.no_higher in
      let a = p.in_one_row (omega (arith, ints)) in let b = q.in_one_row (omega (arith, ints)) in
      omega (arith, ints);
}

-- the first of two ordered lists with the same members is one strip
heads_meet : (s t : Strip) (ss ts : List Strip) → ((u : Strip) → Contains ss u → Precedes s u) → ((u : Strip) → Contains ts u → Precedes t u) → (t ≡ s) ⊎ Contains ts s → (s ≡ t) ⊎ Contains ss t → s ≡ t
heads_meet s t ss ts before_s before_t (inl e) _ = sym e
heads_meet s t ss ts before_s before_t (inr h) (inl e) = e
heads_meet s t ss ts before_s before_t (inr h) (inr k) = absurd (precedes_not_back s t (before_s t k) (before_t s h))

-- what follows the first stays when both lists lose their first
follows : (s u : Strip) (ss ts : List Strip) → ((v : Strip) → Contains ss v → Precedes s v) → Contains ss u → (s ≡ u) ⊎ Contains ts u → Contains ts u
follows s u ss ts before h (inl e) =
    absurd (precedes_not_itself s (let P : Strip → Type 0 = λ v. Precedes s v in subst P (sym e) (before u h)))
follows s u ss ts before h (inr k) = k

pub same_members : (ss ts : List Strip) → IsInOrder ss → IsInOrder ts → ((s : Strip) → Contains ss s → Contains ts s) → ((s : Strip) → Contains ts s → Contains ss s) → ss ≡ ts
same_members [] [] o q there back = refl
same_members [] (t ∷ ts) o q there back = absurd (has_none t (back t (has_head t ts)))
same_members (s ∷ ss) [] o q there back = absurd (has_none s (there s (has_head s ss)))
same_members (s ∷ ss) (t ∷ ts) o q there back =
    let first : s ≡ t = heads_meet s t ss ts o.0 q.0 (has_cases t ts s (there s (has_head s ss))) (has_cases s ss t (back t (has_head t ts))) in
    let P : Strip → Type 0 = λ v. (u : Strip) → (v ≡ u) ⊎ Contains ts u → (s ≡ u) ⊎ Contains ts u in
    let Q : Strip → Type 0 = λ v. (u : Strip) → (v ≡ u) ⊎ Contains ss u → (t ≡ u) ⊎ Contains ss u in
    let as_first : (u : Strip) → (t ≡ u) ⊎ Contains ts u → (s ≡ u) ⊎ Contains ts u = subst P first (λ u c. c) in
    let as_second : (u : Strip) → (s ≡ u) ⊎ Contains ss u → (t ≡ u) ⊎ Contains ss u = subst Q (sym first) (λ u c. c) in
    let rest : ss ≡ ts = same_members ss ts o.1 q.1
    (λ u h. follows s u ss ts o.0 h (as_first u (has_cases t ts u (there u (has_tail s ss u h)))))
    (λ u h. follows t u ts ss q.0 h (as_second u (has_cases s ss u (back u (has_tail t ts u h))))) in
    ap (λ v. v ∷ ss) first ∙ ap (λ vs. t ∷ vs) rest
