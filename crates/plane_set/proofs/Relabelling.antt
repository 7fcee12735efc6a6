-- How the labels near one shape are made again, shape by shape.
use Rattle.std.proofs.Common.{◌≡◌, ℕ, ◌+◌, ◌<◌, ◌↔◌, List, [], ◌∷◌, ◌++◌, length, take, get_or, sym, ◌∙◌, ap, subst, refl}
use Rattle.std.proofs.lemmas.List.{take_more}
use Rattle.geo_rect.specs.declared.ids.Label.{Label}
use Rattle.geo_rect.specs.declared.shapes.Point.{Point}
use Rattle.geo_rect.specs.declared.shapes.Rect.{Rect}
use Rattle.geo_rect.specs.Plane.{HasPoint, LiesIn, IsMeet, ShareNoPoint}
use Rattle.board_parts.specs.declared.parts.BoardParts.{BoardParts}
use Rattle.board_model.specs.declared.shapes.Shape.{Shape}
use Rattle.board_model.specs.Labels.{PlaneRule, Hits, with_shape, label_among}
use Rattle.board_model.proofs.LabelLaws.{label_among-push}
use Rattle.plane_core.specs.Labels.{label_of, IsPlane}
use Rattle.plane_set.specs.Drawings.{Drawing}
use Rattle.plane_set.specs.Joins.{HasNewLabels, HasShapeWithin}
use Rattle.plane_set.specs.Relabelled.{IsRelabelled}
use Rattle.plane_set.proofs.Joining.{lies_from_points}

pub area_inside : (domain region hit area : Rect) → domain ≡ region → IsMeet domain hit area → LiesIn area region
area_inside domain region hit area e meet = subst (λ (r : Rect). LiesIn area r) e (lies_from_points area domain meet.first)

module _ (b : BoardParts) (rule : PlaneRule) where
  one_more_labelled : (domain area : Rect) (done : List Shape) (s : Shape) (old mid new : Point → Label)
      → HasNewLabels domain area (label_among b rule done) old mid
      → HasShapeWithin domain area rule s mid new
      → HasNewLabels domain area (label_among b rule (done ++ s ∷ [])) old new
  one_more_labelled domain area done s old mid new before step = record {
    within = λ p a. step.within p a ∙ ap (λ (l : Label). with_shape rule p l s) (before.within p a) ∙ sym (label_among-push b rule p done s);
    elsewhere = λ p d n. step.elsewhere p d n ∙ before.elsewhere p d n;
  }

  -- the shape at a place of the list
  pub labelled_here : (domain area : Rect) (shapes : List Shape) (i : ℕ) (s : Shape) → s ≡ get_or shapes i s → i < length shapes → (old mid new : Point → Label)
      → HasNewLabels domain area (label_among b rule (take i shapes)) old mid
      → HasShapeWithin domain area rule s mid new
      → HasNewLabels domain area (label_among b rule (take (i + 1) shapes)) old new
  labelled_here domain area shapes i s e h old mid new before step =
      let more : take (i + 1) shapes ≡ take i shapes ++ s ∷ [] = take_more shapes i s h ∙ ap (λ (t : Shape). take i shapes ++ t ∷ []) (sym e) in
      subst (λ (done : List Shape). HasNewLabels domain area (label_among b rule done) old new) (sym more)
      (one_more_labelled domain area (take i shapes) s old mid new before step)

  module _ (gone : Shape) (shapes : List Shape) where
    pub relabelled_nowhere : (d : Drawing) → IsPlane d.region d.strips → ((p : Point) → HasPoint d.region p → Hits rule p gone → ⊥) → IsRelabelled b rule gone shapes d d
    relabelled_nowhere d plane miss = record {
      region = refl;
      hit = λ p h k. absurd (miss p h k);
      missed = λ p h n. refl;
      canonical = plane;
    }

    pub relabelled_apart : (d : Drawing) (domain hit : Rect) → domain ≡ d.region → IsPlane d.region d.strips → ((p : Point) → HasPoint hit p ↔ Hits rule p gone) → ShareNoPoint domain hit → IsRelabelled b rule gone shapes d d
    relabelled_apart d domain hit e plane hits apart =
        relabelled_nowhere d plane (λ p h k. apart p (subst (λ (r : Rect). HasPoint r p) (sym e) h) ((hits p).1 k))

    pub relabelled_area : (old new : Drawing) (domain hit area : Rect) → domain ≡ old.region → ((p : Point) → HasPoint hit p ↔ Hits rule p gone) → IsMeet domain hit area
        → new.region ≡ old.region
        → HasNewLabels old.region area (label_among b rule shapes) (label_of old.strips) (label_of new.strips)
        → IsPlane new.region new.strips
        → IsRelabelled b rule gone shapes old new
    relabelled_area old new domain hit area e hits meet region h plane = record {
      region = region;
      hit = λ p inside k. h.within p (meet.all p (subst (λ (r : Rect). HasPoint r p) (sym e) inside) ((hits p).1 k));
      missed = λ p inside n. h.elsewhere p inside (λ a. n ((hits p).0 (meet.second p a)));
      canonical = plane;
    }
