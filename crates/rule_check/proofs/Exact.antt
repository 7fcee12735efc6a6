-- The violations of a list of shapes are its pairs that are too close and its shapes that leave the board.
use Rattle.std.proofs.Common.{◌≡◌, ◌≢◌, ℕ, zero, suc, ◌<◌, Bool, true, false, ◌==◌, List, [], ◌∷◌, ◌++◌, filter, slice_get, Option, Some, None, Contains, Decides, if◌then◌else◌, ◌⊎◌, inl, inr, refl, sym, ap, ◌∙◌, subst, arith}
use Rattle.std.proofs.lemmas.Bool.{false≢true}
use Rattle.std.proofs.lemmas.Bool.Decides.{Decides-like, Decides-and, Decides-not, Decides-eqb, not_from_Decides}
use Rattle.std.proofs.lemmas.List.Elements.{Contains-append_left, Contains-append_right, Contains-append_cases}
use Rattle.geo_rect.specs.declared.ids.LayerId.{LayerId}
use Rattle.geo_rect.specs.declared.ids.NetId.{NetId}
use Rattle.geo_rect.specs.Plane.{IsTooClose}
use Rattle.geo_rect.proofs.Tests.{Decides-are_too_close}
use Rattle.board_parts.specs.declared.parts.BoardParts.{BoardParts}
use Rattle.board_model.specs.declared.shapes.Owned.{Owned}
use Rattle.board_model.specs.declared.shapes.Shape.{Shape}
use Rattle.board_model.specs.declared.shapes.Violation.{Violation}
use Rattle.board_model.specs.declared.shapes.Violation.TheVariants.{Close, Outline}
use Rattle.board_parts.specs.Rules.{IsOnBoard}
use Rattle.board_parts.specs.Gaps.{gap_between}
use Rattle.board_model.specs.Spacing.{is_same_owner, breaks_gap, keeps_outline}
use Rattle.board_model.specs.Violations.{owned, outline_of, close_pair, close_of, violations_of}
use Rattle.board_model.proofs.Decisions.{Decides-keeps_outline}
use Rattle.rule_check.specs.Meaning.{shape_on, IsClosePair, IsOutside}
use Rattle.rule_check.proofs.Members.{Contains-nil, Contains-cons_cases, Contains-head, Contains-tail, Contains-from_place, place_from_Contains, Contains-filter, Contains-filter_cases, Contains-map, Contains-map_cases}

same_layer : (l m : LayerId) → Decides (l.0 == m.0) (l ≡ m)
same_layer l m = Decides-like (l.0 == m.0) (λ e. ap (λ n. let k : LayerId = record { 0 = n } in k) e) (λ e. ap (λ (k : LayerId). k.0) e) (Decides-eqb l.0 m.0)

same_net : (l m : NetId) → Decides (l.0 == m.0) (l ≡ m)
same_net l m = Decides-like (l.0 == m.0) (λ e. ap (λ n. let k : NetId = record { 0 = n } in k) e) (λ e. ap (λ (k : NetId). k.0) e) (Decides-eqb l.0 m.0)

same_owner : (a b : Option NetId) → Decides (is_same_owner a b) (a ≡ b)
same_owner None None = (λ _. refl, λ _. refl)
same_owner None (Some n) = (λ e. absurd (false≢true e), λ (e : None ≡ Some n). cc)
same_owner (Some m) None = (λ e. absurd (false≢true e), λ (e : Some m ≡ None). cc)
same_owner (Some m) (Some n) = Decides-like (m.0 == n.0) (λ e. ap Some e) (λ (e : Some m ≡ Some n). cc) (same_net m n)

-- what the test of two shapes says
pub record IsBreak (b : BoardParts) (s t : Shape) : Type 0 where
  pub layer : s.layer ≡ t.layer
  pub owners : s.owner ≢ t.owner
  pub close : IsTooClose s.area t.area (gap_between b s.layer s.owner t.owner)

pub Decides-breaks_gap : (b : BoardParts) (s t : Shape) → Decides (breaks_gap b s t) (IsBreak b s t)
Decides-breaks_gap b s t =
    Decides-like (breaks_gap b s t) (λ h. record { layer = h.0.0; owners = h.0.1; close = h.1 }) (λ h. ((h.layer, h.owners), h.close))
    (Decides-and _ _
    (Decides-and _ _ (same_layer s.layer t.layer) (Decides-not _ (same_owner s.owner t.owner)))
    (Decides-are_too_close s.area t.area (gap_between b s.layer s.owner t.owner)))

module _ (b : BoardParts) where
  -- a shape has a violation of its outline where it leaves the board, and no other there
  outline_only : (s : Shape) (v : Violation) → Contains (outline_of b s) v → (Outline s.layer (owned s) ≡ v) × (keeps_outline b s.area ≡ false)
  outline_only s v c = by (keeps_outline b s.area) refl c
    where
      by : (k : Bool) → keeps_outline b s.area ≡ k → Contains (if k then [] else Outline s.layer (owned s) ∷ []) v → (Outline s.layer (owned s) ≡ v) × (keeps_outline b s.area ≡ false)
      by true e d = absurd (Contains-nil v d)
      by false e d =
          elim (Contains-cons_cases (Outline s.layer (owned s)) [] v d) [ inl same ↦ (same, e) | inr none ↦ absurd (Contains-nil v none) ]

  outline_there : (s : Shape) → keeps_outline b s.area ≡ false → Contains (outline_of b s) (Outline s.layer (owned s))
  outline_there s e =
      let v : Violation = Outline s.layer (owned s) in
      let there : Contains (v ∷ []) v = Contains-head v [] v refl in
      subst (λ k. Contains (if k then [] else v ∷ []) v) (sym e) there

  -- the violations of a shape and those after it
  violation_cases : (s : Shape) (later : List Shape) (v : Violation) → Contains (violations_of b (s ∷ later)) v → Contains (outline_of b s) v ⊎ (Contains (close_of b s later) v ⊎ Contains (violations_of b later) v)
  violation_cases s later v c =
      elim (Contains-append_cases (outline_of b s ++ close_of b s later) (violations_of b later) v c) [
        | inl own ↦ elim (Contains-append_cases (outline_of b s) (close_of b s later) v own) [ inl o ↦ inl o | inr k ↦ inr (inl k) ]
        | inr rest ↦ inr (inr rest)
      ]

shape_is : (s : Shape) (l : LayerId) (x : Owned) → s.layer ≡ l → owned s ≡ x → s ≡ shape_on l x
shape_is s l x e f = ap (λ m. shape_on m (owned s)) e ∙ ap (shape_on l) f

module _ (b : BoardParts) (l : LayerId) (x y : Owned) where
  -- a shape and a later one, from their violation
  pair_here : (s : Shape) (later : List Shape) → Contains (close_of b s later) (Close l x y) → IsClosePair b (s ∷ later) l x y
  pair_here s later c =
      let r = Contains-map_cases (close_pair s) (filter (breaks_gap b s) later) (Close l x y) c in
      let t : Shape = r.0 in
      let kept = Contains-filter_cases (breaks_gap b s) later t r.1 in
      let at = place_from_Contains later t kept.0 in
      let break = (Decides-breaks_gap b s t).0 kept.1 in
      let named : Close s.layer (owned s) (owned t) ≡ Close l x y = r.2 in
      let on : s.layer ≡ l = cc in
      let one : owned s ≡ x = cc in
      let other : owned t ≡ y = cc in
      let near : IsTooClose x.area y.area (gap_between b l x.owner y.owner) = subst (λ (m : LayerId). IsTooClose x.area y.area (gap_between b m x.owner y.owner)) on
      (subst (λ (u : Owned). IsTooClose u.area y.area (gap_between b s.layer u.owner y.owner)) one
      (subst (λ (u : Owned). IsTooClose s.area u.area (gap_between b s.layer s.owner u.owner)) other break.close)) in record {
        first = 0;
        second = suc at.0;
        order = omega arith;
        first_is = ap Some (shape_is s l x on one);
        second_is = at.1 ∙ ap Some (shape_is t l y (sym break.layer ∙ on) other);
        owners = λ e. break.owners (ap (λ (u : Owned). u.owner) one ∙ e ∙ sym (ap (λ (u : Owned). u.owner) other));
        close = near;
      }

  pair_later : (s : Shape) (later : List Shape) → IsClosePair b later l x y → IsClosePair b (s ∷ later) l x y
  pair_later s later h = record {
    first = suc h.first;
    second = suc h.second;
    order = omega (arith, h.order);
    first_is = h.first_is;
    second_is = h.second_is;
    owners = h.owners;
    close = h.close;
  }

  pair_from : (shapes : List Shape) → Contains (violations_of b shapes) (Close l x y) → IsClosePair b shapes l x y
  pair_from [] c = absurd (Contains-nil (Close l x y) c)
  pair_from (s ∷ later) c = by (violation_cases b s later (Close l x y) c) (pair_from later)
    where
      by : Contains (outline_of b s) (Close l x y) ⊎ (Contains (close_of b s later) (Close l x y) ⊎ Contains (violations_of b later) (Close l x y)) → (Contains (violations_of b later) (Close l x y) → IsClosePair b later l x y) → IsClosePair b (s ∷ later) l x y
      by (inl o) rest =
          let named : Outline s.layer (owned s) ≡ Close l x y = (outline_only b s (Close l x y) o).0 in
          absurd (cc)
      by (inr (inl k)) rest = pair_here s later k
      by (inr (inr r)) rest = pair_later s later (rest r)

  -- their violation, from a shape and a later one
  listed_here : (later : List Shape) → Contains later (shape_on l y) → x.owner ≢ y.owner → IsTooClose x.area y.area (gap_between b l x.owner y.owner) → Contains (close_of b (shape_on l x) later) (Close l x y)
  listed_here later c owners close =
      let broken = (Decides-breaks_gap b (shape_on l x) (shape_on l y)).1 (record { layer = refl; owners = owners; close = close }) in
      Contains-map (close_pair (shape_on l x)) (filter (breaks_gap b (shape_on l x)) later) (shape_on l y) (Contains-filter (breaks_gap b (shape_on l x)) later (shape_on l y) c broken)

  listed : (shapes : List Shape) → IsClosePair b shapes l x y → Contains (violations_of b shapes) (Close l x y)
  listed [] h = let none : None ≡ Some (shape_on l x) = h.first_is in absurd (cc)
  listed (s ∷ later) h = by h.first h.second h.order h.first_is h.second_is (λ i j o f g. listed later (record {
    first = i;
    second = j;
    order = o;
    first_is = f;
    second_is = g;
    owners = h.owners;
    close = h.close;
  }))
    where
      by : (i j : ℕ) → i < j → slice_get (s ∷ later) i ≡ Some (shape_on l x) → slice_get (s ∷ later) j ≡ Some (shape_on l y)
          → ((m n : ℕ) → m < n → slice_get later m ≡ Some (shape_on l x) → slice_get later n ≡ Some (shape_on l y) → Contains (violations_of b later) (Close l x y))
          → Contains (violations_of b (s ∷ later)) (Close l x y)
      by zero zero o f g rest = absurd (omega arith)
      by (suc i) zero o f g rest = absurd (omega arith)
      by zero (suc j) o f g rest =
          let here : Some s ≡ Some (shape_on l x) = f in
          let same : s ≡ shape_on l x = cc in
          let pair = listed_here later (Contains-from_place later j (shape_on l y) g) h.owners h.close in
          Contains-append_left (outline_of b s ++ close_of b s later) (violations_of b later) (Close l x y)
          (Contains-append_right (outline_of b s) (close_of b s later) (Close l x y) (subst (λ (z : Shape). Contains (close_of b z later) (Close l x y)) (sym same) pair))
      by (suc i) (suc j) o f g rest =
          Contains-append_right (outline_of b s ++ close_of b s later) (violations_of b later) (Close l x y) (rest i j (omega arith) f g)

pub close_exact : (b : BoardParts) (shapes : List Shape) (l : LayerId) (x y : Owned) → (Contains (violations_of b shapes) (Close l x y) → IsClosePair b shapes l x y) × (IsClosePair b shapes l x y → Contains (violations_of b shapes) (Close l x y))
close_exact b shapes l x y = (pair_from b l x y shapes, listed b l x y shapes)

module _ (b : BoardParts) (l : LayerId) (x : Owned) where
  outside_here : (s : Shape) (later : List Shape) → Contains (outline_of b s) (Outline l x) → IsOutside b (s ∷ later) l x
  outside_here s later c =
      let r = outline_only b s (Outline l x) c in
      let named : Outline s.layer (owned s) ≡ Outline l x = r.0 in
      let on : s.layer ≡ l = cc in
      let one : owned s ≡ x = cc in
      let out : IsOnBoard b.width b.height s.area → ⊥ = not_from_Decides _ (Decides-keeps_outline b s.area) r.1 in record {
        there = Contains-head s later (shape_on l x) (shape_is s l x on one);
        outside = subst (λ (u : Owned). IsOnBoard b.width b.height u.area → ⊥) one out;
      }

  outside_from : (shapes : List Shape) → Contains (violations_of b shapes) (Outline l x) → IsOutside b shapes l x
  outside_from [] c = absurd (Contains-nil (Outline l x) c)
  outside_from (s ∷ later) c = by (violation_cases b s later (Outline l x) c) (outside_from later)
    where
      by : Contains (outline_of b s) (Outline l x) ⊎ (Contains (close_of b s later) (Outline l x) ⊎ Contains (violations_of b later) (Outline l x)) → (Contains (violations_of b later) (Outline l x) → IsOutside b later l x) → IsOutside b (s ∷ later) l x
      by (inl o) rest = outside_here s later o
      by (inr (inl k)) rest =
          let r = Contains-map_cases (close_pair s) (filter (breaks_gap b s) later) (Outline l x) k in
          let named : Close s.layer (owned s) (owned r.0) ≡ Outline l x = r.2 in
          absurd (cc)
      by (inr (inr r)) rest =
          let h = rest r in record {
            there = Contains-tail s later (shape_on l x) h.there;
            outside = h.outside;
          }

  left_board : (shapes : List Shape) → Contains shapes (shape_on l x) → (IsOnBoard b.width b.height x.area → ⊥) → Contains (violations_of b shapes) (Outline l x)
  left_board [] c out = absurd (Contains-nil (shape_on l x) c)
  left_board (s ∷ later) c out = by (Contains-cons_cases s later (shape_on l x) c) (λ d. left_board later d out)
    where
      fails : keeps_outline b x.area ≡ false
      fails = by (keeps_outline b x.area) (λ e. out ((Decides-keeps_outline b x.area).0 e))
        where
          by : (k : Bool) → (k ≡ true → ⊥) → k ≡ false
          by true h = absurd (h refl)
          by false h = refl

      by : (s ≡ shape_on l x) ⊎ Contains later (shape_on l x) → (Contains later (shape_on l x) → Contains (violations_of b later) (Outline l x)) → Contains (violations_of b (s ∷ later)) (Outline l x)
      by (inl same) rest =
          Contains-append_left (outline_of b s ++ close_of b s later) (violations_of b later) (Outline l x)
          (Contains-append_left (outline_of b s) (close_of b s later) (Outline l x) (subst (λ (z : Shape). Contains (outline_of b z) (Outline l x)) (sym same) (outline_there b (shape_on l x) fails)))
      by (inr d) rest =
          Contains-append_right (outline_of b s ++ close_of b s later) (violations_of b later) (Outline l x) (rest d)

pub outside_exact : (b : BoardParts) (shapes : List Shape) (l : LayerId) (x : Owned) → (Contains (violations_of b shapes) (Outline l x) → IsOutside b shapes l x) × (IsOutside b shapes l x → Contains (violations_of b shapes) (Outline l x))
outside_exact b shapes l x = (outside_from b l x shapes, λ h. left_board b l x shapes h.there h.outside)
