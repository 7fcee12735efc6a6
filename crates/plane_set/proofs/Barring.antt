-- Areas that are left to no net in a plane, and what a plane shows where nothing stands.
use Rattle.std.proofs.Common.{◌≡◌, List, [], ◌∷◌, ◌++◌, ◌<◌, ℕ, ◌+◌, length, take, get_or, Bool, true, false, inl, inr, refl, sym, ◌∙◌, ap, subst, arith}
use Rattle.std.proofs.lemmas.Int.{ints}
use Rattle.std.proofs.lemmas.Bool.{false≢true}
use Rattle.std.proofs.lemmas.List.{take_more}
use Rattle.std.proofs.lemmas.List.Elements.{Contains-append_left, Contains-push, Contains-push_cases}
use Rattle.geo_rect.specs.declared.ids.Label.{Label}
use Rattle.geo_rect.specs.declared.ids.Label.TheVariants.{Free, Many}
use Rattle.geo_rect.specs.declared.shapes.Point.{Point}
use Rattle.geo_rect.specs.declared.shapes.Rect.{Rect}
use Rattle.geo_rect.specs.Plane.{HasPoint, LiesIn, IsMeet, ShareNoPoint}
use Rattle.board_parts.specs.declared.parts.BoardParts.{BoardParts}
use Rattle.board_model.specs.Labels.{PlaneRule, label_among}
use Rattle.board_model.proofs.LabelLaws.{label_among-nil_allowed, label_among-nil_shut}
use Rattle.grow_rules.specs.Frames.{IsBoardPoint}
use Rattle.plane_core.specs.Labels.{has_point, IsPainted}
use Rattle.plane_core.proofs.Labelled.{has_point_tells}
use Rattle.plane_core.proofs.Members.{has_none}
use Rattle.plane_set.specs.Drawings.{IsBoardArea}
use Rattle.plane_set.specs.Joins.{HasNewLabels, IsInOneOf, IsBarred, IsPieceBarred}
use Rattle.plane_set.specs.Shutting.{AreShutAreas}
use Rattle.plane_set.proofs.Joining.{point_within}

-- what is so in a rectangle and outside of it
by_point : (r : Rect) (p : Point) (Q : Type 0) → (HasPoint r p → Q) → ((HasPoint r p → ⊥) → Q) → Q
by_point r p Q here there =
    let test : (b : Bool) → has_point r p ≡ b → Q = elim [
      | true ↦ λ e. here ((has_point_tells r p).0 e)
      | false ↦ λ e. there (λ h. false≢true (sym e ∙ (has_point_tells r p).1 h))
    ] in
    test (has_point r p) refl

pub none_barred : (domain area : Rect) (old : Point → Label) → IsBarred domain area [] old old
none_barred domain area old = record { within = λ p a h. absurd (has_none h.area h.listed); elsewhere = λ p d n. refl }

pub one_of_more : (done : List Rect) (r : Rect) (p : Point) → IsInOneOf done p → IsInOneOf (done ++ r ∷ []) p
one_of_more done r p h = record { area = h.area; listed = Contains-append_left done (r ∷ []) h.area h.listed; has_point = h.has_point }

pub one_of_last : (done : List Rect) (r : Rect) (p : Point) → HasPoint r p → IsInOneOf (done ++ r ∷ []) p
one_of_last done r p h = record { area = r; listed = Contains-push done r; has_point = h }

-- one piece
pub barred_none : (domain area piece : Rect) (old : Point → Label) → ShareNoPoint area piece → IsPieceBarred domain area piece old old
barred_none domain area piece old apart = record { within = λ p c. absurd (apart p c.in_first c.in_second); elsewhere = λ p d n. refl }

pub barred_part : (domain area piece part : Rect) (old new : Point → Label) → IsMeet area piece part → IsPainted domain part Many old new → IsPieceBarred domain area piece old new
barred_part domain area piece part old new meet h = record {
  within = λ p c. h.within p (meet.all p c.in_first c.in_second);
  elsewhere = λ p d n. h.elsewhere p d (λ q. n (record { in_first = meet.first p q; in_second = meet.second p q }));
}

module _ (domain area : Rect) (old : Point → Label) (inside : LiesIn area domain) where
  one_more_barred : (done : List Rect) (r : Rect) (mid new : Point → Label) → IsBarred domain area done old mid → IsPieceBarred domain area r mid new → IsBarred domain area (done ++ r ∷ []) old new
  one_more_barred done r mid new before step = record {
    within = λ p a h. by_point r p (new p ≡ Many) (λ k. step.within p (record { in_first = a; in_second = k })) (λ n. elim (Contains-push_cases done r h.area h.listed) [
      | inl listed ↦ step.elsewhere p (point_within area domain p inside a) (λ k. n k.in_second) ∙ before.within p a (record { area = h.area; listed = listed; has_point = h.has_point })
      | inr same ↦ absurd (n (subst (λ (q : Rect). HasPoint q p) (sym same) h.has_point))
    ]);
    elsewhere = λ p d n. step.elsewhere p d (λ k. n k.in_first (one_of_last done r p k.in_second)) ∙ before.elsewhere p d (λ a k. n a (one_of_more done r p k));
  }

  pub barred_here : (pieces : List Rect) (i : ℕ) (r : Rect) → r ≡ get_or pieces i r → i < length pieces → (mid new : Point → Label) → IsBarred domain area (take i pieces) old mid → IsPieceBarred domain area r mid new → IsBarred domain area (take (i + 1) pieces) old new
  barred_here pieces i r e h mid new before step =
      let more : take (i + 1) pieces ≡ take i pieces ++ r ∷ [] = take_more pieces i r h ∙ ap (λ (q : Rect). take i pieces ++ q ∷ []) (sym e) in
      subst (λ (done : List Rect). IsBarred domain area done old new) (sym more)
      (one_more_barred (take i pieces) r mid new before step)

-- the plane where nothing stands
board_point : (b : BoardParts) (r : Rect) (p : Point) → IsBoardArea b r → HasPoint r p → IsBoardPoint b p
board_point b r p a h = record {
  across = record { from = omega (arith, ints); to = omega (arith, ints) };
  up = record { from = omega (arith, ints); to = omega (arith, ints) };
}

pub cleared : (b : BoardParts) (rule : PlaneRule) (domain area : Rect) (shut : List Rect) (old mid new : Point → Label) → IsBoardArea b domain → LiesIn area domain
    → AreShutAreas b rule shut → IsPainted domain area Free old mid → IsBarred domain area shut mid new
    → HasNewLabels domain area (label_among b rule []) old new
cleared b rule domain area shut old mid new board inside areas freed barred = record {
  within = λ p a.
      let d : HasPoint domain p = point_within area domain p inside a in
      elim (areas.others p (board_point b domain p board d)) [
        | inl there ↦ barred.within p a there ∙ sym (label_among-nil_shut b rule p (areas.shut p there))
        | inr allowed ↦ barred.elsewhere p d (λ q k. areas.shut p k allowed) ∙ freed.within p a ∙ sym (label_among-nil_allowed b rule p allowed)
      ];
  elsewhere = λ p d n. barred.elsewhere p d (λ a k. n a) ∙ freed.elsewhere p d n;
}
