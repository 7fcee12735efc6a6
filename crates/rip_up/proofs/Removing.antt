-- What planes show while shapes are taken out of them one by one.
use Rattle.std.proofs.Common.{◌≡◌, ℕ, ◌+◌, ◌<◌, inl, inr, List, [], ◌∷◌, ◌++◌, length, take, get_or, sym, ◌∙◌, ap, subst}
use Rattle.std.specs.Prelude.{Contains, Some, slice_get}
use Rattle.std.proofs.lemmas.List.{take_more}
use Rattle.std.proofs.lemmas.List.Elements.{Contains-append_left, Contains-append_right, Contains-append_cases, Contains-push, Contains-push_cases}
use Rattle.geo_rect.specs.declared.shapes.Point.{Point}
use Rattle.geo_rect.specs.declared.shapes.Rect.{Rect}
use Rattle.geo_rect.specs.Plane.{HasPoint}
use Rattle.board_parts.specs.declared.parts.BoardParts.{BoardParts}
use Rattle.board_model.specs.declared.shapes.Shape.{Shape}
use Rattle.board_model.specs.Labels.{PlaneRule, Hits, label_among}
use Rattle.board_model.proofs.LabelLaws.{same_hits}
use Rattle.plane_core.specs.Labels.{label_of, IsPlane}
use Rattle.plane_core.proofs.Members.{has_none, has_head, has_cases}
use Rattle.plane_set.specs.declared.families.Family.{Family}
use Rattle.plane_set.specs.declared.families.Family.TheVariants.{Wires, Vias}
use Rattle.plane_set.specs.Drawings.{Drawing, IsBoardArea, Shows}
use Rattle.plane_set.specs.Families.{rule_in, class_at, HaveAllClasses}
use Rattle.plane_set.specs.Places.{EachAt}
use Rattle.plane_set.specs.Relabelled.{IsRelabelled, IsRowRelabelled, AreRowsRelabelled, AreRelabelled}
use Rattle.plane_set.specs.Standing.{PlaneTable, HasPlanes, StandsFor}
use Rattle.plane_set.proofs.Adding.{by_hit}
use Rattle.plane_set.proofs.Places.{each_beside}
use Rattle.plane_set.proofs.Standing.{all_in}

-- one of the shapes hits p
pub record IsHit (rule : PlaneRule) (shapes : List Shape) (p : Point) : Type 0 where
  pub shape : Shape
  pub member : Contains shapes shape
  pub hits : Hits rule p shape

-- each point that one of those done hits has its label among those that stay, and each other point
-- its label among those that stay and those that go
pub record ShowsSoFar (b : BoardParts) (rule : PlaneRule) (stay gone done : List Shape) (d : Drawing) : Type 0 where
  pub region : IsBoardArea b d.region
  pub hit : (p : Point) → HasPoint d.region p → IsHit rule done p → label_of d.strips p ≡ label_among b rule stay p
  pub missed : (p : Point) → HasPoint d.region p → ¬ IsHit rule done p → label_of d.strips p ≡ label_among b rule (stay ++ gone) p
  pub canonical : IsPlane d.region d.strips

-- each plane of a row, and of a family's rows, shows that
abbrev IsRowSoFar : BoardParts → Family → ℕ → List Shape → List Shape → List Shape → List Drawing → Type 0
IsRowSoFar b f n stay gone done row = EachAt (λ c (d : Drawing). ShowsSoFar b (rule_in b f n (class_at c)) stay gone done d) row

abbrev AreRowsSoFar : BoardParts → Family → List Shape → List Shape → List Shape → List (List Drawing) → Type 0
AreRowsSoFar b f stay gone done rows = EachAt (λ n (row : List Drawing). IsRowSoFar b f n stay gone done row) rows

-- the planes are all there, and each shows that
pub record StandsSoFar (b : BoardParts) (stay gone done : List Shape) (set : PlaneTable) : Type 0 where
  pub planes : HasPlanes b set
  pub wires : AreRowsSoFar b Wires stay gone done set.wires
  pub vias : AreRowsSoFar b Vias stay gone done set.vias

module _ (rule : PlaneRule) (p : Point) where
  hit_more : (done : List Shape) (s : Shape) → IsHit rule done p → IsHit rule (done ++ s ∷ []) p
  hit_more done s h = record { shape = h.shape; member = Contains-append_left done (s ∷ []) h.shape h.member; hits = h.hits }

  hit_last : (done : List Shape) (s : Shape) → Hits rule p s → IsHit rule (done ++ s ∷ []) p
  hit_last done s h = record { shape = s; member = Contains-push done s; hits = h }

  hit_before : (done : List Shape) (s : Shape) → ¬ Hits rule p s → IsHit rule (done ++ s ∷ []) p → IsHit rule done p
  hit_before done s n h =
      elim (Contains-push_cases done s h.shape h.member) [
        | inl before ↦ record { shape = h.shape; member = before; hits = h.hits }
        | inr same ↦ absurd (n (subst (λ (t : Shape). Hits rule p t) (sym same) h.hits))
      ]

  hit_later : (s : Shape) (shapes : List Shape) → IsHit rule shapes p → IsHit rule (s ∷ shapes) p
  hit_later s shapes h = record { shape = h.shape; member = Contains-append_right (s ∷ []) shapes h.shape h.member; hits = h.hits }

  -- what is so where one of the shapes hits, and where none does
  by_hits : (shapes : List Shape) (Q : Type 0) → (IsHit rule shapes p → Q) → ((IsHit rule shapes p → ⊥) → Q) → Q
  by_hits [] Q some none = none (λ h. has_none h.shape h.member)
  by_hits (s ∷ shapes) Q some none =
      by_hit rule s p Q
      (λ k. some (record { shape = s; member = has_head s shapes; hits = k }))
      (λ n. by_hits shapes Q (λ h. some (hit_later s shapes h)) (λ m. none (λ h. elim (has_cases s shapes h.shape h.member) [
        | inl same ↦ n (subst (λ (t : Shape). Hits rule p t) (sym same) h.hits)
        | inr there ↦ m (record { shape = h.shape; member = there; hits = h.hits })
      ])))

module _ (b : BoardParts) (rule : PlaneRule) (stay gone : List Shape) where
  none_gone : (d : Drawing) → Shows b rule (stay ++ gone) d → ShowsSoFar b rule stay gone [] d
  none_gone d h = record {
    region = h.region;
    hit = λ p i k. absurd (has_none k.shape k.member);
    missed = λ p i n. h.labels p i;
    canonical = h.canonical;
  }

  one_more_gone : (done : List Shape) (s : Shape) (old new : Drawing) → ShowsSoFar b rule stay gone done old → IsRelabelled b rule s stay old new → ShowsSoFar b rule stay gone (done ++ s ∷ []) new
  one_more_gone done s old new before again =
      let inside : (p : Point) → HasPoint new.region p → HasPoint old.region p = λ p h. subst (λ (r : Rect). HasPoint r p) again.region h in
      record {
        region = subst (λ (r : Rect). IsBoardArea b r) (sym again.region) before.region;
        hit = λ p h k.
            by_hit rule s p (label_of new.strips p ≡ label_among b rule stay p)
            (λ x. again.hit p (inside p h) x)
            (λ n. again.missed p (inside p h) n ∙ before.hit p (inside p h) (hit_before rule p done s n k));
        missed = λ p h n.
            again.missed p (inside p h) (λ x. n (hit_last rule p done s x))
            ∙ before.missed p (inside p h) (λ k. n (hit_more rule p done s k));
        canonical = again.canonical;
      }

  -- a point that none of those that go hits has the same label without them
  label_kept : (p : Point) → ¬ IsHit rule gone p → label_among b rule (stay ++ gone) p ≡ label_among b rule stay p
  label_kept p n =
      same_hits b rule p (stay ++ gone) stay (λ s h. (
        λ c. elim (Contains-append_cases stay gone s c) [
          | inl stays ↦ stays
          | inr goes ↦ absurd (n (record { shape = s; member = goes; hits = h }))
        ],
        λ c. Contains-append_left stay gone s c,
      ))

  all_gone : (d : Drawing) → ShowsSoFar b rule stay gone gone d → Shows b rule stay d
  all_gone d h = record {
    region = h.region;
    labels = λ p i. by_hits rule p gone (label_of d.strips p ≡ label_among b rule stay p) (λ k. h.hit p i k) (λ n. h.missed p i n ∙ label_kept p n);
    canonical = h.canonical;
  }

module _ (b : BoardParts) (stay gone : List Shape) where
  pub start : (set : PlaneTable) → StandsFor b (stay ++ gone) set → StandsSoFar b stay gone [] set
  start set h = record {
    planes = h.planes;
    wires = λ n row e c d k. none_gone b (rule_in b Wires n (class_at c)) stay gone d (h.wires n row e c d k);
    vias = λ n row e c d k. none_gone b (rule_in b Vias n (class_at c)) stay gone d (h.vias n row e c d k);
  }

  pub finish : (set : PlaneTable) → StandsSoFar b stay gone gone set → StandsFor b stay set
  finish set h = record {
    planes = h.planes;
    wires = λ n row e c d k. all_gone b (rule_in b Wires n (class_at c)) stay gone d (h.wires n row e c d k);
    vias = λ n row e c d k. all_gone b (rule_in b Vias n (class_at c)) stay gone d (h.vias n row e c d k);
  }

  abbrev AllClasses : List (List Drawing) → Type 0
  AllClasses rows = HaveAllClasses (λ (row : List Drawing). row) b rows

  all_here : (rows : List (List Drawing)) → AllClasses rows → (n : ℕ) (row : List Drawing) → slice_get rows n ≡ Some row → length row ≡ length b.classes
  all_here rows all n row e = all_in (λ (r : List Drawing). r) (λ (d : Drawing). d) b rows all n row e

  rows_step : (f : Family) (done : List Shape) (s : Shape) (old new : List (List Drawing)) → length new ≡ length old → AllClasses old → AllClasses new
      → AreRowsRelabelled (λ (row : List Drawing). row) (λ (d : Drawing). d) b f s stay old new
      → AreRowsSoFar b f stay gone done old → AreRowsSoFar b f stay gone (done ++ s ∷ []) new
  rows_step f done s old new count all_old all_new pairs before =
      each_beside (λ n (x y : List Drawing). IsRowRelabelled (λ (d : Drawing). d) b f n s stay x y) (λ n (row : List Drawing). IsRowSoFar b f n stay gone done row) (λ n (row : List Drawing). IsRowSoFar b f n stay gone (done ++ s ∷ []) row) old new count
      (λ n x y e k row_pairs row_before.
      each_beside (λ c (p q : Drawing). IsRelabelled b (rule_in b f n (class_at c)) s stay p q) (λ c (p : Drawing). ShowsSoFar b (rule_in b f n (class_at c)) stay gone done p) (λ c (p : Drawing). ShowsSoFar b (rule_in b f n (class_at c)) stay gone (done ++ s ∷ []) p) x y
      (all_here new all_new n y k ∙ sym (all_here old all_old n x e))
      (λ c p q d j again so. one_more_gone b (rule_in b f n (class_at c)) stay gone done s p q so again)
      row_pairs row_before)
      pairs before

  step : (done : List Shape) (s : Shape) (old new : PlaneTable) → StandsSoFar b stay gone done old → HasPlanes b new → AreRelabelled b s stay old new → StandsSoFar b stay gone (done ++ s ∷ []) new
  step done s old new before planes again = record {
    planes = planes;
    wires = rows_step Wires done s old.wires new.wires (planes.layers ∙ sym before.planes.layers) before.planes.wire_classes planes.wire_classes again.wires before.wires;
    vias = rows_step Vias done s old.vias new.vias (planes.kinds ∙ sym before.planes.kinds) before.planes.via_classes planes.via_classes again.vias before.vias;
  }

  -- the shape at a place of those that go
  pub step_here : (i : ℕ) (s : Shape) → s ≡ get_or gone i s → i < length gone → (old new : PlaneTable) → StandsSoFar b stay gone (take i gone) old → HasPlanes b new → AreRelabelled b s stay old new → StandsSoFar b stay gone (take (i + 1) gone) new
  step_here i s e h old new before planes again =
      let more : take (i + 1) gone ≡ take i gone ++ s ∷ [] = take_more gone i s h ∙ ap (λ (t : Shape). take i gone ++ t ∷ []) (sym e) in
      subst (λ (done : List Shape). StandsSoFar b stay gone done new) (sym more) (step (take i gone) s old new before planes again)
