-- How one more shape changes the labels of a plane, and what the plane then shows.
use Rattle.std.proofs.Common.{◌≡◌, List, [], ◌∷◌, ◌++◌, Result, Ok, Err, IfOk, Bool, true, false, ◌↔◌, refl, sym, ◌∙◌, ap, subst}
use Rattle.std.proofs.lemmas.Bool.{cond-true, cond-false, false_from_ne_true, false≢true}
use Rattle.geo_rect.specs.declared.ids.Label.{Label}
use Rattle.geo_rect.specs.declared.shapes.Point.{Point}
use Rattle.geo_rect.specs.declared.shapes.Rect.{Rect}
use Rattle.geo_rect.specs.Plane.{HasPoint, LiesIn, IsMeet, ShareNoPoint}
use Rattle.board_parts.specs.declared.parts.BoardParts.{BoardParts}
use Rattle.board_model.specs.declared.shapes.Shape.{Shape}
use Rattle.board_model.specs.Labels.{PlaneRule, Hits, does_hit, joined, with_shape}
use Rattle.board_model.proofs.LabelLaws.{label_among-push}
use Rattle.board_model.proofs.LabelTests.{Decides-does_hit}
use Rattle.plane_set.specs.Drawings.{Drawing, IsBoardArea, IsBoardPlane, Shows, HasOneMore}
use Rattle.plane_set.specs.Joins.{HasShapeWithin, IsJoined}
use Rattle.plane_set.proofs.Joining.{point_within}

module _ (rule : PlaneRule) (s : Shape) where
  with_hit : (p : Point) (a : Label) → Hits rule p s → with_shape rule p a s ≡ joined a s.owner
  with_hit p a h = cond-true (does_hit rule p s) _ _ ((Decides-does_hit rule p s).1 h)

  with_miss : (p : Point) (a : Label) → (Hits rule p s → ⊥) → with_shape rule p a s ≡ a
  with_miss p a n = cond-false (does_hit rule p s) _ _ (false_from_ne_true _ (λ e. n ((Decides-does_hit rule p s).0 e)))

  -- what is so where the shape hits, and where it does not
  pub by_hit : (p : Point) (Q : Type 0) → (Hits rule p s → Q) → ((Hits rule p s → ⊥) → Q) → Q
  by_hit p Q yes' no' =
      let test : (b : Bool) → does_hit rule p s ≡ b → Q = elim [
        | true ↦ λ e. yes' ((Decides-does_hit rule p s).0 e)
        | false ↦ λ e. no' (λ h. false≢true (sym e ∙ (Decides-does_hit rule p s).1 h))
      ] in
      test (does_hit rule p s) refl

  pub missed_within : (domain area : Rect) (old : Point → Label) → ((p : Point) → HasPoint area p → Hits rule p s → ⊥) → HasShapeWithin domain area rule s old old
  missed_within domain area old miss = record { within = λ p a. sym (with_miss p (old p) (miss p a)); elsewhere = λ p d n. refl }

  pub apart_within : (domain area hit : Rect) (old : Point → Label) → ((p : Point) → HasPoint hit p ↔ Hits rule p s) → ShareNoPoint area hit → HasShapeWithin domain area rule s old old
  apart_within domain area hit old hits apart = missed_within domain area old (λ p a h. apart p a ((hits p).1 h))

  pub joined_within : (domain area hit piece : Rect) (old new : Point → Label) → LiesIn area domain
      → ((p : Point) → HasPoint hit p ↔ Hits rule p s) → IsMeet area hit piece
      → IsJoined domain piece s.owner old new
      → HasShapeWithin domain area rule s old new
  joined_within domain area hit piece old new inside hits meet h = record {
    within = λ p a.
        by_hit p (new p ≡ with_shape rule p (old p) s)
        (λ k. h.within p (meet.all p a ((hits p).1 k)) ∙ sym (with_hit p (old p) k))
        (λ n. h.elsewhere p (point_within area domain p inside a) (λ q. n ((hits p).0 (meet.second p q))) ∙ sym (with_miss p (old p) n));
    elsewhere = λ p d n. h.elsewhere p d (λ q. n (meet.first p q));
  }

-- a plane that shows some shapes shows one more
pub shows_more : (b : BoardParts) (rule : PlaneRule) (shapes : List Shape) (s : Shape) (old new : Drawing) → HasOneMore rule s old new → Shows b rule shapes old → Shows b rule (shapes ++ s ∷ []) new
shows_more b rule shapes s old new more h = record {
  region = subst (λ (r : Rect). IsBoardArea b r) (sym more.region) h.region;
  labels = λ p inside.
      let old_inside : HasPoint old.region p = subst (λ (r : Rect). HasPoint r p) more.region inside in
      more.labels p old_inside ∙ ap (λ (a : Label). with_shape rule p a s) (h.labels p old_inside) ∙ sym (label_among-push b rule p shapes s);
  canonical = more.canonical;
}

-- a plane of the board with one more shape is one of the board
pub board_plane_more : (b : BoardParts) (rule : PlaneRule) (s : Shape) (old new : Drawing) → HasOneMore rule s old new → IsBoardPlane b old → IsBoardPlane b new
board_plane_more b rule s old new more h = record {
  region = subst (λ (r : Rect). IsBoardArea b r) (sym more.region) h.region;
  canonical = more.canonical;
}

-- three facts of an `Ok` at once
pub if_ok_three : {T E : Type 0} (r : Result T E) (P Q R S : T → Type 0) → ((x : T) → P x → Q x → R x → S x) → IfOk r P → IfOk r Q → IfOk r R → IfOk r S
if_ok_three (Ok x) P Q R S f p q r = f x p q r
if_ok_three (Err e) P Q R S f p q r = tt
