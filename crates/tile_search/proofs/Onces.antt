-- Fronts are settled in the order of their keys, and none is settled twice.
use Rattle.std.proofs.Common.{◌≡◌, ℕ, ◌<◌, ◌≤◌, inl, inr, List, [], ◌∷◌, ◌++◌, Contains, Some, length, sym, subst, arith}
use Rattle.std.specs.Prelude.{slice_get}
use Rattle.std.proofs.lemmas.Option.{slice_get_within}
use Rattle.geo_rect.specs.declared.ids.Spot.{Spot}
use Rattle.geo_rect.specs.declared.shapes.Rect.{Rect}
use Rattle.geo_rect.specs.Distance.{IsReach}
use Rattle.plane_core.proofs.Members.{has_none}
use Rattle.route_law.specs.declared.certs.Entry.{Entry}
use Rattle.route_law.specs.Covers.{IsLow, IsReachedBefore}
use Rattle.route_law.specs.Moves.{arrival_of}
use Rattle.route_law.proofs.Numbered.{numbered_listed}
use Rattle.tile_search.specs.Keys.{IsKey, IsGoalOrdered}
use Rattle.tile_search.specs.Once.{IsSameFront, AreSettledOnce}
use Rattle.tile_search.proofs.Numbered.{numbered_cases}
use Rattle.tile_search.proofs.Rising.{last_key}
use Rattle.tile_search.proofs.Settled.{itself}

pub none_once : (targets : List Spot) → AreSettledOnce targets []
none_once targets = record {
  rising = λ m n x y i j l h k a b. absurd (has_none x (numbered_listed [] m x h));
  once = λ m n x y l h k s. absurd (has_none x (numbered_listed [] m x h));
}

module _ (targets : List Spot) (entries : List Entry) (e : Entry) (key : ℕ) (is : IsKey targets e key) (before : IsGoalOrdered targets entries key) where
  -- an entry of the same front costs no more
  same_costs : (x : Entry) → Contains entries x → x.front ≡ e.front → x.cost ≤ e.cost
  same_costs x c s =
      let P : Rect → Type 0 = λ r. IsLow targets r is.low in
      let first = before x is.low c (subst P (sym s) is.is_low) in
      omega (arith, first, is.sum)

  -- so it would cover it
  same_covers : (x : Entry) → Contains entries x → IsSameFront x e → IsReachedBefore entries (arrival_of e)
  same_covers x c s = record {
    entry = x;
    listed = c;
    same_layer = s.layer;
    same_strip = s.strip;
    way = 0;
    reach = subst (λ (r : Rect). IsReach x.front r 0) s.front (itself x.front);
    enough = omega (arith, same_costs x c s.front);
  }

  module _ (m n : ℕ) (x y : Entry) (l : m < n) (h : slice_get (entries ++ e ∷ []) m ≡ Some x) where
    -- what comes before the last is one of the others
    earlier_listed : n ≡ length entries → Contains entries x
    earlier_listed i =
        elim (numbered_cases entries e m x h) [
          | inl k ↦ numbered_listed entries m x k
          | inr k ↦ (let j = k.0 in absurd (omega (arith, l, i, j)))
        ]

    earlier_numbered : slice_get entries n ≡ Some y → slice_get entries m ≡ Some x
    earlier_numbered i =
        elim (numbered_cases entries e m x h) [
          | inl k ↦ k
          | inr k ↦ (let j = k.0 in absurd (omega (arith, l, j, slice_get_within entries n y i)))
        ]

    last_rises : (i j : ℕ) → Contains entries x → IsKey targets x i → IsKey targets e j → i ≤ j
    last_rises i j c a b = omega (arith, a.sum, before x a.low c a.is_low, b.sum, last_key targets entries e key is b.low b.is_low)

    rising_more : AreSettledOnce targets entries → (i j : ℕ) → slice_get (entries ++ e ∷ []) n ≡ Some y → IsKey targets x i → IsKey targets y j → i ≤ j
    rising_more o i j k a b =
        elim (numbered_cases entries e n y k) [
          | inl q ↦ o.rising m n x y i j l (earlier_numbered q) q a b
          | inr q ↦ last_rises i j (earlier_listed q.0) a (subst (λ (z : Entry). IsKey targets z j) (sym q.1) b)
        ]

    once_more : AreSettledOnce targets entries → (IsReachedBefore entries (arrival_of e) → ⊥) → slice_get (entries ++ e ∷ []) n ≡ Some y → IsSameFront x y → ⊥
    once_more o u k s =
        elim (numbered_cases entries e n y k) [
          | inl i ↦ o.once m n x y l (earlier_numbered i) i s
          | inr i ↦ u (same_covers x (earlier_listed i.0) (subst (λ (z : Entry). IsSameFront x z) (sym i.1) s))
        ]

  pub settled_once_more : AreSettledOnce targets entries → (IsReachedBefore entries (arrival_of e) → ⊥) → AreSettledOnce targets (entries ++ e ∷ [])
  settled_once_more o u = record {
    rising = λ m n x y i j l h k a b. rising_more m n x y l h o i j k a b;
    once = λ m n x y l h k s. once_more m n x y l h o u k s;
  }
