-- Facts on strips that hold or do not.
use Rattle.std.proofs.Common.{ℕ, ℤ, pos, ◌+ℤ◌, ◌≤ℤ◌, ◌≡◌, refl, ap, ◌⊎◌, inl, inr, arith}
use Rattle.std.proofs.lemmas.Int.{ints, by_lt_z}
use Rattle.std.proofs.lemmas.Bool.Decides.{eqb_tells}
use Rattle.geo_rect.specs.declared.ids.Label.{Label}
use Rattle.geo_rect.specs.declared.ids.Label.TheVariants.{Free, One, Many}
use Rattle.geo_rect.specs.declared.ids.NetId.{NetId}
use Rattle.geo_rect.specs.declared.shapes.Interval.{Interval}
use Rattle.geo_rect.specs.declared.shapes.Rect.{Rect}
use Rattle.geo_rect.specs.Axis.{HasNumber}
use Rattle.geo_rect.specs.Plane.{columns, rows}
use Rattle.plane_core.specs.declared.strips.Strip.{Strip}
use Rattle.plane_core.specs.LocalForm.{HaveSameColumns}
use Rattle.plane_core.specs.Sides.{HaveCommon}
use Rattle.plane_core.specs.Strips.{Precedes}
use Rattle.plane_core.proofs.Sharing.{common_from_ends}
use Rattle.flat_plane.specs.Draft.{IsAffected, Joins, Touch}

-- a fact of two parts is decided when its parts are
pub both_decided : {P Q R : Type 0} → P ⊎ ¬ P → Q ⊎ ¬ Q → (P → Q → R) → (R → P) → (R → Q) → R ⊎ ¬ R
both_decided (inl p) (inl q) make first second = inl (make p q)
both_decided (inl p) (inr n) make first second = inr (λ r. n (second r))
both_decided (inr n) q make first second = inr (λ r. n (first r))

pub le_decided : (x y : ℤ) → (x ≤ℤ y) ⊎ ¬ (x ≤ℤ y)
le_decided x y = by_lt_z y x (λ less. inr (λ h. omega (arith, ints))) (λ h. inl h)

pub int_decided : (x y : ℤ) → (x ≡ y) ⊎ ¬ (x ≡ y)
int_decided x y =
    both_decided (le_decided x y) (le_decided y x) (λ p q. omega (arith, ints)) (λ e. omega (arith, ints)) (λ e. omega (arith, ints))

net_decided : (m n : NetId) → (m ≡ n) ⊎ ¬ (m ≡ n)
net_decided m n =
    elim (eqb_tells m.0 n.0) [
      | inl h ↦ inl (let F : ℕ → NetId = λ k. record { 0 = k } in ap F h.1)
      | inr h ↦ inr (λ e. h.1 (ap (λ (k : NetId). k.0) e))
    ]

one_net : (m n : NetId) → One m ≡ One n → m ≡ n
one_net m n e = cc

pub label_decided : (a b : Label) → (a ≡ b) ⊎ ¬ (a ≡ b)
label_decided Free Free = inl refl
label_decided Free (One n) = inr (λ e. cc)
label_decided Free Many = inr (λ e. cc)
label_decided (One m) Free = inr (λ e. cc)
label_decided (One m) (One n) = elim (net_decided m n) [ inl e ↦ inl (ap One e) | inr k ↦ inr (λ e. k (one_net m n e)) ]
label_decided (One m) Many = inr (λ e. cc)
label_decided Many Free = inr (λ e. cc)
label_decided Many (One n) = inr (λ e. cc)
label_decided Many Many = inl refl

touch_decided : (i j : Interval) → Touch i j ⊎ ¬ Touch i j
touch_decided i j =
    both_decided (le_decided j.low (i.high +ℤ pos 1)) (le_decided i.low (j.high +ℤ pos 1))
    (λ p q. record { first_reaches = p; second_reaches = q }) (λ t. t.first_reaches) (λ t. t.second_reaches)

columns_decided : (s t : Rect) → HaveSameColumns s t ⊎ ¬ HaveSameColumns s t
columns_decided s t =
    both_decided (int_decided s.x0 t.x0) (int_decided s.x1 t.x1)
    (λ p q. record { left = p; right = q }) (λ h. h.left) (λ h. h.right)

pub joins_decided : (s t : Strip) → Joins s t ⊎ ¬ Joins s t
joins_decided s t =
    both_decided (label_decided s.label t.label)
    (both_decided {R = HaveSameColumns s.area t.area × Touch (rows s.area) (rows t.area)} (columns_decided s.area t.area) (touch_decided (rows s.area) (rows t.area)) (λ p q. (p, q)) (λ r. r.0) (λ r. r.1))
    (λ p q. record { same_label = p; same_columns = q.0; rows_touch = q.1 }) (λ j. j.same_label) (λ j. (j.same_columns, j.rows_touch))

pub precedes_decided : (s t : Strip) → Precedes s t ⊎ ¬ Precedes s t
precedes_decided s t =
    by_lt_z s.area.y0 t.area.y0
    (λ lower. inl (record { no_higher = omega (arith, ints); in_one_row = λ back. absurd (omega (arith, ints)) }))
    (λ from. by_lt_z t.area.y0 s.area.y0
    (λ higher. inr (λ p. let h = p.no_higher in omega (arith, ints)))
    (λ to. by_lt_z s.area.x0 t.area.x0
    (λ left. inl (record { no_higher = omega (arith, ints); in_one_row = λ back. left }))
    (λ right. inr (λ p. let h = p.in_one_row from in omega (arith, ints)))))

common_decided : (i j : Interval) → HaveCommon i j ⊎ ¬ HaveCommon i j
common_decided i j =
    both_decided (le_decided i.low j.high) (le_decided j.low i.high) (common_from_ends i j)
    (λ c. let a = c.in_first.from in let b = c.in_second.to in omega (arith, ints))
    (λ c. let a = c.in_second.from in let b = c.in_first.to in omega (arith, ints))

pub affected_decided : (area s : Rect) → IsAffected area s ⊎ ¬ IsAffected area s
affected_decided area s =
    both_decided (touch_decided (columns area) (columns s)) (common_decided (rows area) (rows s))
    (λ p q. record { across = p; up = q }) (λ a. a.across) (λ a. a.up)

pub number_decided : (i : Interval) (v : ℤ) → HasNumber i v ⊎ ¬ HasNumber i v
number_decided i v =
    both_decided (le_decided i.low v) (le_decided v i.high) (λ p q. record { from = p; to = q }) (λ h. h.from) (λ h. h.to)
