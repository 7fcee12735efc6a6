-- The cheapest of goals with the one or the other of two properties.
use Rattle.std.proofs.Common.{◌≡◌, ◌<◌, ◌≤◌, ◌⊎◌, inl, inr, Bool, true, false, cond, Option, Some, None, refl, arith}
use Rattle.std.specs.Prelude.{nat_lt}
use Rattle.std.proofs.lemmas.Bool.{ltb-true, ltb-false}
use Rattle.tile_search.specs.declared.goals.Goal.{Goal}
use Rattle.tile_search.specs.Goals.{IsCheapest, IsLeastGoal, lesser_of}

cond_both : {A : Type 0} (b : Bool) (x y : A) (P : A → Type 0) → (b ≡ true → P x) → (b ≡ false → P y) → P (cond b x y)
cond_both true x y P f g = f refl
cond_both false x y P f g = g refl

-- R is P or Q
pub record IsEither (P Q R : Goal → Type 0) : Type 0 where
  pub first : (x : Goal) → P x → R x
  pub second : (x : Goal) → Q x → R x
  pub cases : (x : Goal) → R x → P x ⊎ Q x

module _ (P Q R : Goal → Type 0) (e : IsEither P Q R) where
  least_first : (m : Goal) → IsCheapest P m → ((x : Goal) → Q x → m.cost ≤ x.cost) → IsCheapest R m
  least_first m p q = record {
    there = e.first m p.there;
    least = λ x r. elim (e.cases x r) [ inl h ↦ p.least x h | inr h ↦ q x h ];
  }

  least_second : (m : Goal) → IsCheapest Q m → ((x : Goal) → P x → m.cost ≤ x.cost) → IsCheapest R m
  least_second m q p = record {
    there = e.second m q.there;
    least = λ x r. elim (e.cases x r) [ inl h ↦ p x h | inr h ↦ q.least x h ];
  }

  least_below : (m n : Goal) → IsCheapest P m → IsCheapest Q n → n.cost < m.cost → IsCheapest R n
  least_below m n p q l = least_second n q (λ x h. let k = p.least x h in omega arith)

  least_above : (m n : Goal) → IsCheapest P m → IsCheapest Q n → m.cost ≤ n.cost → IsCheapest R m
  least_above m n p q l = least_first m p (λ x h. let k = q.least x h in omega arith)

  pub least_of_either : (a b : Option Goal) → IsLeastGoal P a → IsLeastGoal Q b → IsLeastGoal R (lesser_of a b)
  least_of_either None None p q = λ x r. elim (e.cases x r) [ inl h ↦ p x h | inr h ↦ q x h ]
  least_of_either None (Some n) p q = least_second n q (λ x h. absurd (p x h))
  least_of_either (Some m) None p q = least_first m p (λ x h. absurd (q x h))
  least_of_either (Some m) (Some n) p q =
      cond_both (nat_lt n.cost m.cost) n m (IsCheapest R)
      (λ t. least_below m n p q (ltb-true n.cost m.cost t))
      (λ t. least_above m n p q (ltb-false n.cost m.cost t))

-- a cheapest goal is one also of a property that says the same
pub cheapest_as : (P Q : Goal → Type 0) (m : Goal) → ((x : Goal) → P x → Q x) → ((x : Goal) → Q x → P x) → IsCheapest P m → IsCheapest Q m
cheapest_as P Q m f g p = record { there = f m p.there; least = λ x h. p.least x (g x h) }
