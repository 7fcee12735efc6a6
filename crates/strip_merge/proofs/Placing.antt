-- A strip put in its place in a list in order.
use Rattle.std.proofs.Common.{ℤ, ◌≤ℤ◌, ◌<ℤ◌, ◌≡◌, refl, sym, subst, Bool, true, false, ◌⊎◌, inl, inr, List, [], ◌∷◌, Contains, if◌then◌else◌, arith}
use Rattle.std.specs.Prelude.{int_le, int_lt}
use Rattle.std.specs.Bool.{Decides}
use Rattle.std.proofs.lemmas.Bool.Decides.{Decides-and, Decides-like, Decides-or, not_from_Decides}
use Rattle.std.proofs.lemmas.Int.{ints, by_lt_z}
use Rattle.geo_rect.specs.declared.shapes.Point.{Point}
use Rattle.geo_rect.specs.Plane.{HasPoint}
use Rattle.plane_core.specs.declared.strips.Strip.{Strip}
use Rattle.plane_core.specs.Strips.{IsInOrder, Precedes}
use Rattle.plane_core.proofs.Alike.{corner, corner_point}
use Rattle.plane_core.proofs.Choices.{order_one}
use Rattle.plane_core.proofs.Members.{has_cases, has_head, has_tail}
use Rattle.plane_core.proofs.Ordered.{precedes_on}
use Rattle.strip_merge.specs.StripsOf.{comes_first, placed}

le_tells : (a b : ℤ) → Decides (int_le a b) (a ≤ℤ b)
le_tells a b = (λ h. grind (arith, ints), λ h. grind (arith, ints))

lt_tells : (a b : ℤ) → Decides (int_lt a b) (a <ℤ b)
lt_tells a b = (λ h. grind (arith, ints), λ h. grind (arith, ints))

from_cases : (s t : Strip) → (s.area.y0 <ℤ t.area.y0) ⊎ ((s.area.y0 ≤ℤ t.area.y0) × (s.area.x0 <ℤ t.area.x0)) → Precedes s t
from_cases s t (inl h) = record { no_higher = omega (arith, ints); in_one_row = λ k. absurd (omega (arith, ints)) }
from_cases s t (inr h) = record { no_higher = h.0; in_one_row = λ k. h.1 }

to_cases : (s t : Strip) → Precedes s t → (s.area.y0 <ℤ t.area.y0) ⊎ ((s.area.y0 ≤ℤ t.area.y0) × (s.area.x0 <ℤ t.area.x0))
to_cases s t p = by_lt_z s.area.y0 t.area.y0 (λ h. inl h) (λ h. inr (p.no_higher, p.in_one_row h))

pub comes_first_tells : (s t : Strip) → Decides (comes_first s t) (Precedes s t)
comes_first_tells s t =
    Decides-like (comes_first s t) (from_cases s t) (to_cases s t)
    (Decides-or (int_lt s.area.y0 t.area.y0) _ (lt_tells s.area.y0 t.area.y0)
    (Decides-and (int_le s.area.y0 t.area.y0) (int_lt s.area.x0 t.area.x0) (le_tells s.area.y0 t.area.y0) (lt_tells s.area.x0 t.area.x0)))

-- of two strips with no common point, one precedes the other
pub precedes_or_back : (s t : Strip) → ((at : Point) → HasPoint s.area at → ¬ HasPoint t.area at) → ¬ Precedes t s → Precedes s t
precedes_or_back s t apart n = record {
  no_higher = no_higher;
  in_one_row = λ back. by_lt_z s.area.x0 t.area.x0 (λ h. h) (λ past. absurd (by_lt_z t.area.x0 s.area.x0
      (λ less. n (record { no_higher = back; in_one_row = λ _. less }))
      (λ no_later. share back past no_later)));
}
  where
    no_higher : s.area.y0 ≤ℤ t.area.y0
    no_higher =
        by_lt_z t.area.y0 s.area.y0
        (λ less. absurd (n (record { no_higher = omega (arith, ints); in_one_row = λ h. absurd (omega (arith, ints)) })))
        (λ h. h)

    share : t.area.y0 ≤ℤ s.area.y0 → t.area.x0 ≤ℤ s.area.x0 → s.area.x0 ≤ℤ t.area.x0 → ⊥
    share back past no_later =
        let across = t.area.x_ordered in let up = t.area.y_ordered in let level = no_higher in
        apart (corner s) (corner_point s)
        (record { across = record { from = past; to = omega (arith, ints) }; up = record { from = back; to = omega (arith, ints) } })

choose_true : {A : Type 0} (b : Bool) (x y : A) → b ≡ true → (if b then x else y) ≡ x
choose_true b x y e = grind arith

choose_false : {A : Type 0} (b : Bool) (x y : A) → b ≡ false → (if b then x else y) ≡ y
choose_false b x y e = grind arith

-- the strip comes first, or it comes after the first of the list
data IsPlaced (s t : Strip) (ts all : List Strip) : Type 0 where
  before : Precedes s t → all ≡ s ∷ t ∷ ts → IsPlaced s t ts all
  after : ¬ Precedes s t → all ≡ t ∷ placed s ts → IsPlaced s t ts all

by_test : (s t : Strip) (ts : List Strip) → (comes_first s t ≡ true) ⊎ (comes_first s t ≡ false) → IsPlaced s t ts (placed s (t ∷ ts))
unfolding placed
by_test s t ts (inl e) = before ((comes_first_tells s t).0 e) (choose_true (comes_first s t) (s ∷ t ∷ ts) (t ∷ placed s ts) e)
by_test s t ts (inr e) = after (not_from_Decides (comes_first s t) (comes_first_tells s t) e) (choose_false (comes_first s t) (s ∷ t ∷ ts) (t ∷ placed s ts) e)

bool_cases : (b : Bool) → (b ≡ true) ⊎ (b ≡ false)
bool_cases true = inl refl
bool_cases false = inr refl

is_placed : (s t : Strip) (ts : List Strip) → IsPlaced s t ts (placed s (t ∷ ts))
is_placed s t ts = by_test s t ts (bool_cases (comes_first s t))

placed_none : (s : Strip) → placed s [] ≡ s ∷ []
unfolding placed
placed_none s = refl

-- the strip and those of the list are the strips of the new list
pub record Adds (s : Strip) (ss all : List Strip) : Type 0 where
  pub has_new : Contains all s
  pub has_old : (t : Strip) → Contains ss t → Contains all t
  pub no_other : (t : Strip) → Contains all t → (s ≡ t) ⊎ Contains ss t

adds_head : (s : Strip) (ss all : List Strip) → all ≡ s ∷ ss → Adds s ss all
adds_head s ss all e =
    let P : List Strip → Type 0 = λ l. Adds s ss l in
    subst P (sym e) (record { has_new = has_head s ss; has_old = has_tail s ss; no_other = has_cases s ss })

adds_later : (s t : Strip) (ts some all : List Strip) → all ≡ t ∷ some → Adds s ts some → Adds s (t ∷ ts) all
adds_later s t ts some all e a =
    let P : List Strip → Type 0 = λ l. Adds s (t ∷ ts) l in
    let Q : Strip → Type 0 = λ u. Contains (t ∷ some) u in
    let R : Strip → Type 0 = λ u. Contains (t ∷ ts) u in
    subst P (sym e) (record {
      has_new = has_tail t some s a.has_new;
      has_old = λ u h. elim (has_cases t ts u h) [ inl k ↦ subst Q k (has_head t some) | inr k ↦ has_tail t some u (a.has_old u k) ];
      no_other = λ u h. elim (has_cases t some u h) [
        | inl k ↦ inr (subst R k (has_head t ts))
        | inr k ↦ elim (a.no_other u k) [ inl m ↦ inl m | inr m ↦ inr (has_tail t ts u m) ]
      ];
    })

pub placed_adds : (s : Strip) (ss : List Strip) → Adds s ss (placed s ss)
placed_adds s [] = adds_head s [] (placed s []) (placed_none s)
placed_adds s (t ∷ ts) =
    elim (is_placed s t ts) [
      | before p e ↦ adds_head s (t ∷ ts) (placed s (t ∷ ts)) e
      | after n e ↦ adds_later s t ts (placed s ts) (placed s (t ∷ ts)) e (placed_adds s ts)
    ]

-- a strip that has no point in common with those of a list in order is put in its place
pub placed_in_order : (s : Strip) (ss : List Strip) → IsInOrder ss → ((t : Strip) (at : Point) → Contains ss t → HasPoint s.area at → ¬ HasPoint t.area at) → IsInOrder (placed s ss)
placed_in_order s [] o apart = let P : List Strip → Type 0 = λ l. IsInOrder l in subst P (sym (placed_none s)) (order_one s)
placed_in_order s (t ∷ ts) o apart =
    let P : List Strip → Type 0 = λ l. IsInOrder l in
    elim (is_placed s t ts) [
      | before p e ↦ subst P (sym e) (first_before p, o)
      | after n e ↦ subst P (sym e) (first_after n, placed_in_order s ts o.1 (λ u at h. apart u at (has_tail t ts u h)))
    ]
  where
    first_before : Precedes s t → (u : Strip) → Contains (t ∷ ts) u → Precedes s u
    first_before p u h =
        let Q : Strip → Type 0 = λ v. Precedes s v in
        elim (has_cases t ts u h) [ inl e ↦ subst Q e p | inr k ↦ precedes_on s t u p (o.0 u k) ]

    first_after : ¬ Precedes s t → (u : Strip) → Contains (placed s ts) u → Precedes t u
    first_after n u h =
        let Q : Strip → Type 0 = λ v. Precedes t v in
        elim ((placed_adds s ts).no_other u h) [
          | inl e ↦ subst Q e (precedes_or_back t s (λ at ht hs. apart t at (has_head t ts) hs ht) n)
          | inr k ↦ o.0 u k
        ]
