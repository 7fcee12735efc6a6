-- Small steps on cases: what follows for an option, and the one bit of a test.
use Rattle.std.proofs.Common.{◌≡◌, ◌↔◌, ℕ, Bool, true, false, not, Option, Some, None, refl, sym, ◌∙◌}
use Rattle.std.specs.Prelude.{IfNone, IfSome, IsTrue, is_some}

-- what holds anyway holds where there is no value
pub none_anyway : {A : Type 0} {X : Type 0} (o : Option A) → X → IfNone o X
none_anyway None x = x
none_anyway (Some v) x = tt

pub none_then : {A : Type 0} {X Y : Type 0} (o : Option A) → (X → Y) → IfNone o X → IfNone o Y
none_then None f x = f x
none_then (Some v) f x = tt

-- a test is not both
pub not_both : {b : Bool} → b ≡ true → b ≡ false → ⊥
not_both e f = let h : true ≡ false = sym e ∙ f in cc

pub not_true : IsTrue false → ⊥
not_true t = cc

-- an option that decides a fact by being none, which a test tells
pub none_decides : (o : Option ℕ) (r : Bool) (X : Type 0) → is_some o ≡ not r → IfNone o X → IfSome o (λ k. X → ⊥) → IsTrue r ↔ X
none_decides None true X e x n = (λ t. x, λ h. refl)
none_decides None false X e x n = absurd (let h : false ≡ true = e in cc)
none_decides (Some k) true X e x n = absurd (let h : true ≡ false = e in cc)
none_decides (Some k) false X e x n = (λ t. absurd (not_true t), λ h. absurd (n h))
