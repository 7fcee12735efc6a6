-- The goals to which an entry comes, box by box, and those of entry after entry.
use Rattle.std.proofs.Common.{◌≡◌, ◌≢◌, ℕ, ◌+◌, ◌<◌, inl, inr, List, [], ◌∷◌, ◌++◌, Some, length, get_or, take, refl, sym, ap, subst, arith}
use Rattle.std.specs.Prelude.{slice_get}
use Rattle.std.proofs.lemmas.List.Elements.{Contains-push, Contains-push_cases, Contains-append_left}
use Rattle.geo_rect.specs.declared.ids.LayerId.{LayerId}
use Rattle.geo_rect.specs.declared.ids.Node.{Node}
use Rattle.geo_rect.specs.declared.ids.Spot.{Spot}
use Rattle.geo_rect.specs.declared.shapes.Rect.{Rect}
use Rattle.geo_rect.specs.Distance.{IsDistance}
use Rattle.geo_rect.specs.Images.{IsClamped}
use Rattle.geo_rect.specs.Plane.{HasPoint, IsMeet, ShareNoPoint}
use Rattle.geo_rect.proofs.Clamps.{clamped_level, clamped_point}
use Rattle.board_model.specs.Shapes.{place_of}
use Rattle.route_law.specs.declared.certs.Entry.{Entry}
use Rattle.route_law.proofs.Numbered.{take_one_more}
use Rattle.tile_search.specs.declared.goals.Goal.{Goal}
use Rattle.tile_search.specs.Goals.{IsGoalIn, IsGoalAt, IsGoalOf, IsGoalAmong, IsCheapest}
use Rattle.tile_search.proofs.Cheapest.{IsEither, cheapest_as}
use Rattle.tile_search.proofs.Numbered.{numbered_kept, numbered_last, numbered_cases}

-- a node of the clamped front is a cheapest one of the part
pub nearest_goal : (part near : Rect) (n : ℕ) (e : Entry) (v : Node) (way : ℕ) → IsClamped e.front part near → IsDistance e.front part way → HasPoint near (place_of v) → v.layer ≡ e.layer → IsCheapest (IsGoalIn part n e) (record { cost = e.cost + way; entry = n; end = v })
nearest_goal part near n e v way c d h l = record {
  there = record {
    numbered = refl;
    same_layer = l;
    in_part = clamped_point e.front part near (place_of v) c h;
    way = way;
    away = clamped_level e.front part near (place_of v) way c d h;
    sum = refl;
  };
  least = λ x k.
      let p = k.away.reached in
      omega (arith, k.sum, p.2, d.least p.0 (place_of x.end) p.1 k.in_part);
}

module _ (box : Spot) (n : ℕ) (e : Entry) where
  pub other_layer : box.layer.0 ≢ e.layer.0 → (x : Goal) → IsGoalAt box n e x → ⊥
  other_layer d x h = d (ap (λ (l : LayerId). l.0) h.box_layer)

  pub no_common : ShareNoPoint e.strip box.area → (x : Goal) → IsGoalAt box n e x → ⊥
  no_common s x h = s (place_of x.end) h.in_strip h.in_box

  module _ (part : Rect) (layer : box.layer ≡ e.layer) (meets : IsMeet e.strip box.area part) where
    at_of_in : (x : Goal) → IsGoalIn part n e x → IsGoalAt box n e x
    at_of_in x h = record {
      numbered = h.numbered;
      box_layer = layer;
      same_layer = h.same_layer;
      in_box = meets.second (place_of x.end) h.in_part;
      in_strip = meets.first (place_of x.end) h.in_part;
      way = h.way;
      away = h.away;
      sum = h.sum;
    }

    in_of_at : (x : Goal) → IsGoalAt box n e x → IsGoalIn part n e x
    in_of_at x h = record {
      numbered = h.numbered;
      same_layer = h.same_layer;
      in_part = meets.all (place_of x.end) h.in_strip h.in_box;
      way = h.way;
      away = h.away;
      sum = h.sum;
    }

    pub cheapest_at : (m : Goal) → IsCheapest (IsGoalIn part n e) m → IsCheapest (IsGoalAt box n e) m
    cheapest_at m h = cheapest_as (IsGoalIn part n e) (IsGoalAt box n e) m at_of_in in_of_at h

-- a goal in some boxes and one more is a goal in them, or in that one
goals_pushed : (few : List Spot) (x : Spot) (n : ℕ) (e : Entry) → IsEither (IsGoalOf few n e) (IsGoalAt x n e) (IsGoalOf (few ++ x ∷ []) n e)
goals_pushed few x n e = record {
  first = λ y h. record { box = h.box; listed = Contains-append_left few (x ∷ []) h.box h.listed; at = h.at };
  second = λ y h. record { box = x; listed = Contains-push few x; at = h };
  cases = λ y h.
      elim (Contains-push_cases few x h.box h.listed) [
        | inl c ↦ inl (record { box = h.box; listed = c; at = h.at })
        | inr q ↦ inr (subst (λ (b : Spot). IsGoalAt b n e y) (sym q) h.at)
      ];
}

pub goals_more : (targets : List Spot) (i : ℕ) (x : Spot) (n : ℕ) (e : Entry) → i < length targets → x ≡ get_or targets i x → IsEither (IsGoalOf (take i targets) n e) (IsGoalAt x n e) (IsGoalOf (take (i + 1) targets) n e)
goals_more targets i x n e l is =
    subst (λ (ts : List Spot). IsEither (IsGoalOf (take i targets) n e) (IsGoalAt x n e) (IsGoalOf ts n e)) (sym (take_one_more targets i x l is)) (goals_pushed (take i targets) x n e)

-- a goal of some entries and one more is a goal of them, or of that one
module _ (targets : List Spot) (entries : List Entry) (e : Entry) where
  of_last : (y : Goal) → IsGoalOf targets (length entries) e y → IsGoalAmong targets (entries ++ e ∷ []) y
  of_last y h =
      let i : y.entry ≡ length entries = h.at.numbered in
      let P : ℕ → Type 0 = λ k. slice_get (entries ++ e ∷ []) k ≡ Some e in
      let Q : ℕ → Type 0 = λ k. IsGoalOf targets k e y in
      record { entry = e; numbered = subst P (sym i) (numbered_last entries e); reached = subst Q (sym i) h }

  last_of : (y : Goal) (x : Entry) → y.entry ≡ length entries → e ≡ x → IsGoalOf targets y.entry x y → IsGoalOf targets (length entries) e y
  last_of y x i q h =
      let P : Entry → Type 0 = λ z. IsGoalOf targets y.entry z y in
      let Q : ℕ → Type 0 = λ k. IsGoalOf targets k e y in
      subst Q i (subst P (sym q) h)

  pub goals_settled : IsEither (IsGoalAmong targets entries) (IsGoalOf targets (length entries) e) (IsGoalAmong targets (entries ++ e ∷ []))
  goals_settled = record {
    first = λ y h. record { entry = h.entry; numbered = numbered_kept entries e y.entry h.entry h.numbered; reached = h.reached };
    second = of_last;
    cases = λ y h.
        elim (numbered_cases entries e y.entry h.entry h.numbered) [
          | inl q ↦ inl (record { entry = h.entry; numbered = q; reached = h.reached })
          | inr q ↦ inr (last_of y h.entry q.0 q.1 h.reached)
        ];
  }
