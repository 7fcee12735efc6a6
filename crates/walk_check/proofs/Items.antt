-- What holds of the items of a list that come before a place, and the nodes in which the first legs end.
use Rattle.std.proofs.Common.{ℕ, zero, suc, ◌≡◌, ◌+◌, ◌<◌, List, [], ◌∷◌, ◌⊎◌, inl, inr, Some, length, get_or, take, refl, sym, ◌∙◌, ap, subst, arith}
use Rattle.std.specs.Prelude.{slice_get}
use Rattle.std.proofs.lemmas.Option.{slice_get-get_or, same_Some}
use Rattle.std.proofs.lemmas.List.{take_more}
use Rattle.geo_rect.specs.declared.ids.Node.{Node}
use Rattle.board_model.specs.declared.made.Leg.{Leg}
use Rattle.board_parts.specs.declared.parts.BoardParts.{BoardParts}
use Rattle.board_model.specs.Shapes.{end_of}
use Rattle.route_law.specs.Ground.{Ground}
use Rattle.route_law.specs.Walks.{last_node}
use Rattle.route_law.proofs.Joining.{last_node-append}
use Rattle.walk_check.specs.Corners.{corner_after, IsGoodLeg, AreGoodLegs, IsFirstBadLeg}

-- an item before a place, or at it
last_or_before : (m i : ℕ) → m < i + 1 → (m ≡ i) ⊎ (m < i)
last_or_before zero zero h = inl refl
last_or_before zero (suc i) h = inr (omega arith)
last_or_before (suc m) zero h = absurd (omega arith)
last_or_before (suc m) (suc i) h =
    elim (last_or_before m i (omega arith)) [ inl e ↦ inl (ap suc e) | inr l ↦ inr (omega arith) ]

-- what holds of the items before a place and of the one at it holds of those before the next place
pub items_more : {X : Type 0} (P : ℕ → X → Type 0) (xs : List X) (i : ℕ) (x : X) → slice_get xs i ≡ Some x → ((m : ℕ) (y : X) → m < i → slice_get xs m ≡ Some y → P m y) → P i x → (m : ℕ) (y : X) → m < i + 1 → slice_get xs m ≡ Some y → P m y
items_more {X} P xs i x e before here m y l f =
    elim (last_or_before m i l) [
      | inl k ↦ (let same : x ≡ y = same_Some x y (sym e ∙ sym (ap (slice_get xs) k) ∙ f) in subst (λ (z : X). P m z) same (subst (λ (j : ℕ). P j x) (sym k) here))
      | inr k ↦ before m y k f
    ]

-- one more leg ends where it ends
pub corner_more : (v : Node) (legs : List Leg) (i : ℕ) (d : Leg) → i < length legs → corner_after v legs (i + 1) ≡ end_of (get_or legs i d)
corner_more v legs i d l = ap (last_node v) (take_more legs i d l) ∙ last_node-append v (take i legs) (get_or legs i d ∷ [])

-- the legs before number i are good, and the last of them ends in this node
module _ (b : BoardParts) (g : Ground) (v : Node) (legs : List Leg) (i : ℕ) (d : Leg) (from : Node) (inside : i < length legs) (here : from ≡ corner_after v legs i) (before : AreGoodLegs b g v legs i) where
  pub good_more : IsGoodLeg b g from (get_or legs i d) → AreGoodLegs b g v legs (i + 1)
  good_more h =
      items_more (λ (m : ℕ) (x : Leg). IsGoodLeg b g (corner_after v legs m) x) legs i (get_or legs i d) (slice_get-get_or legs i d inside) before
      (subst (λ (u : Node). IsGoodLeg b g u (get_or legs i d)) here h)

  pub first_bad : (IsGoodLeg b g from (get_or legs i d) → ⊥) → IsFirstBadLeg b g v legs (i + 1)
  first_bad bad = record {
    index = i;
    leg = get_or legs i d;
    numbered = refl;
    listed = slice_get-get_or legs i d inside;
    before = before;
    bad = λ h. bad (subst (λ (u : Node). IsGoodLeg b g u (get_or legs i d)) (sym here) h);
  }
