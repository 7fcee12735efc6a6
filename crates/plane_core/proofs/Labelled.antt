-- The labels that strips give, and labellings that agree on the domain.
use Rattle.std.proofs.Common.{ℤ, pos, ◌-ℤ◌, ◌+ℤ◌, ◌≤ℤ◌, ◌≡◌, refl, sym, subst, ◌∙◌, Bool, true, false, ◌⊎◌, inl, inr, List, [], ◌∷◌, Contains, if◌then◌else◌, arith}
use Rattle.std.specs.Prelude.{int_le}
use Rattle.std.specs.Bool.{Decides}
use Rattle.std.proofs.lemmas.Bool.Decides.{Decides-and, Decides-like, not_from_Decides}
use Rattle.std.proofs.lemmas.Int.{ints}
use Rattle.geo_rect.specs.declared.ids.Label.{Label}
use Rattle.geo_rect.specs.declared.shapes.Interval.{Interval}
use Rattle.geo_rect.specs.declared.shapes.Point.{Point}
use Rattle.geo_rect.specs.declared.shapes.Rect.{Rect}
use Rattle.geo_rect.specs.Axis.{HasNumber}
use Rattle.geo_rect.specs.Plane.{columns, rows, HasPoint}
use Rattle.plane_core.specs.declared.strips.Strip.{Strip}
use Rattle.plane_core.specs.Labels.{has_number, has_point, label_of, painted, IsPainted, IsPlane}
use Rattle.plane_core.specs.Strips.{AreStrips, IsHeld, IsRunInRow}
use Rattle.plane_core.proofs.Local.{strip_labels}
use Rattle.plane_core.proofs.Runs.{within_has}
use Rattle.plane_core.proofs.Members.{has_cases, has_none, has_head, has_tail}

int_le_tells : (a b : ℤ) → Decides (int_le a b) (a ≤ℤ b)
int_le_tells a b = (λ h. grind (arith, ints), λ h. grind (arith, ints))

pub has_number_tells : (i : Interval) (v : ℤ) → Decides (has_number i v) (HasNumber i v)
has_number_tells i v =
    Decides-like (has_number i v) (λ h. record { from = h.0; to = h.1 }) (λ h. (h.from, h.to))
    (Decides-and (int_le i.low v) (int_le v i.high) (int_le_tells i.low v) (int_le_tells v i.high))

pub has_point_tells : (r : Rect) (p : Point) → Decides (has_point r p) (HasPoint r p)
has_point_tells r p =
    Decides-like (has_point r p) (λ h. record { across = h.0; up = h.1 }) (λ h. (h.across, h.up))
    (Decides-and (has_number (columns r) p.x) (has_number (rows r) p.y) (has_number_tells (columns r) p.x) (has_number_tells (rows r) p.y))

choose_true : {A : Type 0} (b : Bool) (x y : A) → b ≡ true → (if b then x else y) ≡ x
choose_true b x y e = grind arith

choose_false : {A : Type 0} (b : Bool) (x y : A) → b ≡ false → (if b then x else y) ≡ y
choose_false b x y e = grind arith

bool_cases : (b : Bool) → (b ≡ true) ⊎ (b ≡ false)
bool_cases true = inl refl
bool_cases false = inr refl

not_true_is_false : (b : Bool) → (b ≡ true → ⊥) → b ≡ false
not_true_is_false true n = absurd (n refl)
not_true_is_false false n = refl

pub painted_within : (f : Point → Label) (area : Rect) (m : Label) (p : Point) → HasPoint area p → painted f area m p ≡ m
unfolding painted
painted_within f area m p h = choose_true (has_point area p) m (f p) ((has_point_tells area p).1 h)

pub painted_elsewhere : (f : Point → Label) (area : Rect) (m : Label) (p : Point) → ¬ HasPoint area p → painted f area m p ≡ f p
unfolding painted
painted_elsewhere f area m p n =
    choose_false (has_point area p) m (f p) (not_true_is_false (has_point area p) (λ e. n ((has_point_tells area p).0 e)))

-- what is not held by the first is held by the rest
pub held_by_rest : (s : Strip) (ss : List Strip) (p : Point) → ¬ HasPoint s.area p → IsHeld (s ∷ ss) p → IsHeld ss p
held_by_rest s ss p n h =
    elim (has_cases s ss h.by h.is_listed) [
      | inl e ↦ absurd (n (let P : Strip → Type 0 = λ t. HasPoint t.area p in subst P (sym e) h.has_point))
      | inr k ↦ record { by = h.by; is_listed = k; has_point = h.has_point }
    ]

label_cases : (f : Point → Label) (s : Strip) (ss : List Strip) (p : Point) → (HasPoint s.area p → f p ≡ s.label) → (¬ HasPoint s.area p → label_of ss p ≡ f p) → (has_point s.area p ≡ true) ⊎ (has_point s.area p ≡ false) → label_of (s ∷ ss) p ≡ f p
unfolding label_of
label_cases f s ss p here there (inl e) = choose_true (has_point s.area p) s.label (label_of ss p) e ∙ sym (here ((has_point_tells s.area p).0 e))
label_cases f s ss p here there (inr e) =
    choose_false (has_point s.area p) s.label (label_of ss p) e ∙ there (not_from_Decides (has_point s.area p) (has_point_tells s.area p) e)

pub label_of_held : (f : Point → Label) (ss : List Strip) (p : Point) → ((s : Strip) → Contains ss s → HasPoint s.area p → f p ≡ s.label) → IsHeld ss p → label_of ss p ≡ f p
label_of_held f [] p labelled h = absurd (has_none h.by h.is_listed)
label_of_held f (s ∷ ss) p labelled h =
    label_cases f s ss p (labelled s (has_head s ss))
    (λ n. label_of_held f ss p (λ t k. labelled t (has_tail s ss t k)) (held_by_rest s ss p n h))
    (bool_cases (has_point s.area p))

-- the strips of a labelled domain give its points their labels
pub strips_give_labels : (domain : Rect) (f : Point → Label) (ss : List Strip) (p : Point) → AreStrips domain f ss → HasPoint domain p → label_of ss p ≡ f p
strips_give_labels domain f ss p are h = label_of_held f ss p (λ s k. strip_labels domain f s (are.each s k) p) (are.covered p h)

row_agrees : (domain : Rect) (f g : Point → Label) (s : Strip) (y : ℤ) → ((p : Point) → HasPoint domain p → g p ≡ f p) → IsRunInRow domain f s y → IsRunInRow domain g s y
row_agrees domain f g s y agree r = record {
  in_domain = r.in_domain;
  run = record {
    inside = r.run.inside;
    same = λ x h. agree (record { x = x; y = y }) (record { across = within_has (columns s.area) (columns domain) x r.run.inside h; up = r.in_domain }) ∙ r.run.same x h;
    ends_left = λ d e. r.run.ends_left d (sym (agree (record { x = s.area.x0 -ℤ pos 1; y = y }) (record { across = d; up = r.in_domain })) ∙ e);
    ends_right = λ d e. r.run.ends_right d (sym (agree (record { x = s.area.x1 +ℤ pos 1; y = y }) (record { across = d; up = r.in_domain })) ∙ e);
  };
}

-- the strips depend on the labels of the domain alone
pub strips_agree : (domain : Rect) (f g : Point → Label) (ss : List Strip) → ((p : Point) → HasPoint domain p → g p ≡ f p) → AreStrips domain f ss → AreStrips domain g ss
strips_agree domain f g ss agree are =
    let back : (p : Point) → HasPoint domain p → f p ≡ g p = λ p h. sym (agree p h) in
    record {
      each = λ s h. let i = are.each s h in record {
        in_each_row = λ y hy. row_agrees domain f g s y agree (i.in_each_row y hy);
        ends_below = λ r. i.ends_below (row_agrees domain g f s _ back r);
        ends_above = λ r. i.ends_above (row_agrees domain g f s _ back r);
      };
      covered = are.covered;
      in_order = are.in_order;
    }

pub plane_from_strips : (domain : Rect) (f : Point → Label) (ss : List Strip) → AreStrips domain f ss → IsPlane domain ss
plane_from_strips domain f ss are = strips_agree domain f (label_of ss) ss (λ p h. strips_give_labels domain f ss p are h) are

-- the strips of the painted labels give painted labels
pub labels_painted : (domain area : Rect) (m : Label) (f : Point → Label) (ss : List Strip) → ((p : Point) → HasPoint area p → HasPoint domain p) → AreStrips domain (painted f area m) ss → IsPainted domain area m f (label_of ss)
labels_painted domain area m f ss inside are = record {
  within = λ p h. strips_give_labels domain (painted f area m) ss p are (inside p h) ∙ painted_within f area m p h;
  elsewhere = λ p h n. strips_give_labels domain (painted f area m) ss p are h ∙ painted_elsewhere f area m p n;
}
