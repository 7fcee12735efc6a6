-- What is read of areas tells whether pieces touch.
use Rattle.std.proofs.Common.{◌≡◌, ℕ, ◌<◌, ◌≤◌, List, length, get_or, take, All, ap, sym, ◌∙◌, subst, refl}
use Rattle.std.specs.Prelude.{Any, Contains}
use Rattle.std.proofs.lemmas.List.{take_all}
use Rattle.std.proofs.lemmas.List.Elements.{All-get_or}
use Rattle.std.proofs.lemmas.Option.{get_or_from_slice_get, slice_get_read}
use Rattle.geo_rect.specs.declared.ids.LayerId.{LayerId}
use Rattle.geo_rect.specs.declared.ids.Spot.{Spot}
use Rattle.geo_rect.specs.declared.shapes.Point.{Point}
use Rattle.geo_rect.specs.declared.shapes.Rect.{Rect}
use Rattle.geo_rect.specs.Order.{just-ordered}
use Rattle.geo_rect.specs.Plane.{HasPoint, IsMeet}
use Rattle.net_trace.specs.declared.copper.Piece.{Piece}
use Rattle.net_trace.specs.Touching.{SharePoint, Touch, AreTouching}

-- areas on one layer that meet share the lower left point of what they share
pub meet_shares : (s t : Spot) (r : Rect) → s.layer.0 ≡ t.layer.0 → IsMeet s.area t.area r → SharePoint s t
meet_shares s t r e m =
    let p : Point = record { x = r.x0; y = r.y0 } in
    let h : HasPoint r p = record { across = record { from = just-ordered r.x0; to = r.x_ordered }; up = record { from = just-ordered r.y0; to = r.y_ordered } } in
    record { same_layer = ap (λ (n : ℕ). let l : LayerId = record { 0 = n } in l) e; point = p; of_first = m.first p h; of_second = m.second p h }

-- none of a list has what none of its first items has, if these are all
pub none_has : {X : Type 0} (P : X → Type 0) (xs : List X) (i : ℕ) → length xs ≤ i → All (λ x. P x → ⊥) (take i xs) → Any P xs → ⊥
none_has P xs i l h a =
    let all = subst (All (λ x. P x → ⊥)) (take_all i xs l) h in
    All-get_or (λ x. P x → ⊥) xs a.0 a.1 a.2 all (subst P (sym a.3) a.4)

-- the pieces touch where an area of the first shares a point with one of the second's
pub touch_here : (a b : Piece) (xs ys : List Spot) (i : ℕ) (s : Spot) → xs ≡ a.area → ys ≡ b.area → i < length xs → s ≡ get_or xs i s → Any (SharePoint s) ys → Touch a b
touch_here a b xs ys i s e f l g h = record {
  one = s;
  other = h.1;
  one_listed = subst (λ zs. Contains zs s) e (i, l, sym g);
  other_listed = subst (λ zs. Contains zs h.1) f (h.0, h.2, h.3);
  share = h.4;
}

-- they do not where none does
pub touch_nowhere : (a b : Piece) (xs : List Spot) (i : ℕ) → xs ≡ a.area → length xs ≤ i → All (λ s. Any (SharePoint s) b.area → ⊥) (take i xs) → Touch a b → ⊥
touch_nowhere a b xs i e l h t =
    let c = subst (λ zs. Contains zs t.one) (sym e) t.one_listed in
    let o = t.other_listed in
    none_has (λ s. Any (SharePoint s) b.area) xs i l h (c.0, t.one, c.1, c.2, (o.0, t.other, o.1, o.2, t.share))

module _ (pieces : List Piece) (i j : ℕ) (p q : Piece) (here : p ≡ get_or pieces i p) (there : q ≡ get_or pieces j q) where
  -- pieces that are read at their numbers touch as their numbers say
  pub touch_of_numbers : AreTouching pieces i j → Touch p q
  touch_of_numbers h =
      let e = here ∙ get_or_from_slice_get pieces i h.first p h.is_first in
      let f = there ∙ get_or_from_slice_get pieces j h.second q h.is_second in
      subst (λ x. Touch x q) (sym e) (subst (Touch h.first) (sym f) h.touch)

  pub numbers_touch : i < length pieces → j < length pieces → Touch p q → AreTouching pieces i j
  numbers_touch l m t = record {
    first = p;
    second = q;
    is_first = slice_get_read pieces (length pieces) i p refl l here;
    is_second = slice_get_read pieces (length pieces) j q refl m there;
    touch = t;
  }
