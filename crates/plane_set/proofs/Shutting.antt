-- How the areas that are left to no net are found: the frame, and then keep-out by keep-out.
use Rattle.std.proofs.Common.{◌≡◌, ℤ, ℕ, ◌+◌, ◌<◌, List, [], ◌∷◌, ◌++◌, length, take, get_or, All, Any, Bool, true, false, ◌⊎◌, inl, inr, ◌↔◌, refl, sym, ◌∙◌, ap, subst}
use Rattle.std.specs.Prelude.{Contains}
use Rattle.std.proofs.lemmas.Bool.{false≢true}
use Rattle.std.proofs.lemmas.List.{take_more}
use Rattle.std.proofs.lemmas.List.Elements.{All-nil, All-push, All-weaker, All-contains, All-contains_itself, Contains-append_left, Contains-push, Contains-push_cases}
use Rattle.geo_rect.specs.declared.shapes.Point.{Point}
use Rattle.geo_rect.specs.declared.shapes.Rect.{Rect}
use Rattle.geo_rect.specs.Plane.{HasPoint, square}
use Rattle.board_parts.specs.declared.parts.BoardParts.{BoardParts}
use Rattle.board_parts.specs.declared.parts.Keepout.{Keepout}
use Rattle.board_parts.specs.Rules.{IsOnBoard}
use Rattle.board_model.specs.Labels.{PlaneRule, FitsBoard, Shuts, does_shut}
use Rattle.board_model.proofs.LabelTests.{Decides-does_shut}
use Rattle.grow_rules.specs.Frames.{IsBoardPoint}
use Rattle.plane_set.specs.Joins.{IsInOneOf}
use Rattle.plane_set.specs.Shutting.{AreShutAreas, HaveShutPoints}
use Rattle.plane_set.proofs.Barring.{one_of_more, one_of_last}

-- the squares round p lie in the board, and none of these keep-outs shuts p
pub record IsOpen (b : BoardParts) (rule : PlaneRule) (done : List Keepout) (p : Point) : Type 0 where
  pub fits : FitsBoard b rule p
  pub clear : All (λ (k : Keepout). ¬ Shuts rule p k) done

-- of the points of the board the areas have exactly those that are not open
pub record AreShutSoFar (b : BoardParts) (rule : PlaneRule) (done : List Keepout) (areas : List Rect) : Type 0 where
  pub shut : (p : Point) → IsInOneOf areas p → ¬ IsOpen b rule done p
  pub others : (p : Point) → IsBoardPoint b p → IsInOneOf areas p ⊎ IsOpen b rule done p

-- one area more
pub shut_more : (rule : PlaneRule) (k : Keepout) (areas : List Rect) (r : Rect) → ((p : Point) → HasPoint r p ↔ Shuts rule p k) → HaveShutPoints rule k areas (areas ++ r ∷ [])
shut_more rule k areas r is = record {
  kept = λ p h. one_of_more areas r p h;
  gained = λ p s. one_of_last areas r p ((is p).1 s);
  only = λ p h. elim (Contains-push_cases areas r h.area h.listed) [
    | inl listed ↦ inl (record { area = h.area; listed = listed; has_point = h.has_point })
    | inr same ↦ inr ((is p).0 (subst (λ (q : Rect). HasPoint q p) (sym same) h.has_point))
  ];
}

-- the frame
any_one : (edges : List Rect) (p : Point) → Any (λ (r : Rect). HasPoint r p) edges → IsInOneOf edges p
any_one edges p (k, r, l, e, h) = record { area = r; listed = (k, l, e); has_point = h }

one_any : (edges : List Rect) (p : Point) → IsInOneOf edges p → Any (λ (r : Rect). HasPoint r p) edges
one_any edges p h = let c = h.listed in (c.0, h.area, c.1, c.2, h.has_point)

pub shut_edges : (b : BoardParts) (rule : PlaneRule) (half : ℤ) (edges : List Rect) → half ≡ rule.widest
    → ((p : Point) → Any (λ (r : Rect). HasPoint r p) edges → ¬ IsOnBoard b.width b.height (square p half))
    → ((p : Point) → IsBoardPoint b p → Any (λ (r : Rect). HasPoint r p) edges ⊎ IsOnBoard b.width b.height (square p half))
    → AreShutSoFar b rule [] edges
shut_edges b rule half edges same leaves others =
    let P : Point → ℤ → Type 0 = λ p z. IsOnBoard b.width b.height (square p z) in
    record {
      shut = λ p h open'. leaves p (one_any edges p h) (subst (P p) (sym same) open'.fits);
      others = λ p on. elim (others p on) [
        | inl any ↦ inl (any_one edges p any)
        | inr fits ↦ inr (record { fits = subst (P p) same fits; clear = All-nil (λ (k : Keepout). ¬ Shuts rule p k) })
      ];
    }

-- what is so where the keep-out shuts p, and where it does not
by_shut : (rule : PlaneRule) (k : Keepout) (p : Point) (Q : Type 0) → (Shuts rule p k → Q) → ((Shuts rule p k → ⊥) → Q) → Q
by_shut rule k p Q here there =
    let test : (b : Bool) → does_shut rule p k ≡ b → Q = elim [
      | true ↦ λ e. here ((Decides-does_shut rule p k).0 e)
      | false ↦ λ e. there (λ h. false≢true (sym e ∙ (Decides-does_shut rule p k).1 h))
    ] in
    test (does_shut rule p k) refl

module _ (b : BoardParts) (rule : PlaneRule) where
  open_before : (done : List Keepout) (k : Keepout) (p : Point) → IsOpen b rule (done ++ k ∷ []) p → IsOpen b rule done p
  open_before done k p h =
      let P : Keepout → Type 0 = λ j. ¬ Shuts rule p j in
      record { fits = h.fits; clear = All-weaker (Contains done) P (λ j c. All-contains P (done ++ k ∷ []) j h.clear (Contains-append_left done (k ∷ []) j c)) done (All-contains_itself done) }

  open_last : (done : List Keepout) (k : Keepout) (p : Point) → IsOpen b rule (done ++ k ∷ []) p → ¬ Shuts rule p k
  open_last done k p h = All-contains (λ (j : Keepout). ¬ Shuts rule p j) (done ++ k ∷ []) k h.clear (Contains-push done k)

  one_more_shut : (done : List Keepout) (k : Keepout) (old new : List Rect) → AreShutSoFar b rule done old → HaveShutPoints rule k old new → AreShutSoFar b rule (done ++ k ∷ []) new
  one_more_shut done k old new before more = record {
    shut = λ p h open'. elim (more.only p h) [
      | inl there ↦ before.shut p there (open_before done k p open')
      | inr shuts ↦ open_last done k p open' shuts
    ];
    others = λ p on. by_shut rule k p (IsInOneOf new p ⊎ IsOpen b rule (done ++ k ∷ []) p)
        (λ s. inl (more.gained p s))
        (λ n. elim (before.others p on) [
          | inl there ↦ inl (more.kept p there)
          | inr open' ↦ inr (record { fits = open'.fits; clear = All-push (λ (j : Keepout). ¬ Shuts rule p j) done k open'.clear n })
        ]);
  }

  pub shut_here : (all : List Keepout) (i : ℕ) (k : Keepout) → k ≡ get_or all i k → i < length all → (old new : List Rect) → AreShutSoFar b rule (take i all) old → HaveShutPoints rule k old new → AreShutSoFar b rule (take (i + 1) all) new
  shut_here all i k e h old new before more =
      let grown : take (i + 1) all ≡ take i all ++ k ∷ [] = take_more all i k h ∙ ap (λ (j : Keepout). take i all ++ j ∷ []) (sym e) in
      subst (λ (done : List Keepout). AreShutSoFar b rule done new) (sym grown) (one_more_shut (take i all) k old new before more)

  pub all_shut : (areas : List Rect) → AreShutSoFar b rule b.keepouts areas → AreShutAreas b rule areas
  all_shut areas h = record {
    shut = λ p i allowed. h.shut p i (record { fits = allowed.fits; clear = allowed.clear });
    others = λ p on. elim (h.others p on) [
      | inl there ↦ inl there
      | inr open' ↦ inr (record { fits = open'.fits; clear = open'.clear })
    ];
  }
