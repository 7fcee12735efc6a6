-- The least number of a property, of two properties, and of the ends of entries.
use Rattle.std.proofs.Common.{◌≡◌, ℕ, ◌+◌, ◌<◌, ◌≤◌, ◌⊎◌, inl, inr, min, List, Contains, Option, Some, None, length, get_or, take, refl, sym, ap, subst, arith}
use Rattle.std.proofs.lemmas.Bool.{cases_lt}
use Rattle.geo_rect.specs.declared.ids.Spot.{Spot}
use Rattle.geo_rect.specs.declared.shapes.Rect.{Rect}
use Rattle.geo_rect.specs.Distance.{IsDistance}
use Rattle.geo_rect.specs.Plane.{IsMeet, ShareNoPoint}
use Rattle.geo_rect.proofs.Distances.{find_distance, distance_one}
use Rattle.route_law.specs.declared.certs.Entry.{Entry}
use Rattle.route_law.specs.Right.{IsEnd, HasNoEnd, IsBoundOf}
use Rattle.route_law.proofs.Doors.{find_meet}
use Rattle.route_law.proofs.Numbered.{taken_before, taken_last, taken_cases}
use Rattle.cert_check.specs.Bounds.{IsLeast, IsLeastOf, lesser_of, IsEndAt, IsSomeEnd}
use Rattle.cert_check.proofs.Meets.{meet_one, meet_not_apart}

-- R is P or Q
pub record IsEither (P Q R : ℕ → Type 0) : Type 0 where
  pub first : (n : ℕ) → P n → R n
  pub second : (n : ℕ) → Q n → R n
  pub cases : (n : ℕ) → R n → P n ⊎ Q n

module _ (P Q R : ℕ → Type 0) (e : IsEither P Q R) where
  least_first : (m : ℕ) → IsLeast P m → ((n : ℕ) → Q n → m ≤ n) → IsLeast R m
  least_first m p q = record {
    there = e.first m p.there;
    least = λ k r. elim (e.cases k r) [ inl h ↦ p.least k h | inr h ↦ q k h ];
  }

  least_second : (m : ℕ) → IsLeast Q m → ((n : ℕ) → P n → m ≤ n) → IsLeast R m
  least_second m q p = record {
    there = e.second m q.there;
    least = λ k r. elim (e.cases k r) [ inl h ↦ p k h | inr h ↦ q.least k h ];
  }

  least_min : (m n : ℕ) → IsLeast P m → IsLeast Q n → (m < n) ⊎ (n ≤ m) → IsLeast R (min m n)
  least_min m n p q (inl h) =
      let is : m ≡ min m n = omega arith in
      subst (IsLeast R) is (least_first m p (λ k i. let l = q.least k i in omega arith))
  least_min m n p q (inr h) =
      let is : n ≡ min m n = omega arith in
      subst (IsLeast R) is (least_second n q (λ k i. let l = p.least k i in omega arith))

  pub least_of_either : (a b : Option ℕ) → IsLeastOf P a → IsLeastOf Q b → IsLeastOf R (lesser_of a b)
  least_of_either None None p q = λ n r. elim (e.cases n r) [ inl h ↦ p n h | inr h ↦ q n h ]
  least_of_either None (Some n) p q = least_second n q (λ k h. absurd (p k h))
  least_of_either (Some m) None p q = least_first m p (λ k h. absurd (q k h))
  least_of_either (Some m) (Some n) p q = least_min m n p q (cases_lt m n)

-- there is one least number
pub least_of_one : (P : ℕ → Type 0) (a b : Option ℕ) → IsLeastOf P a → IsLeastOf P b → a ≡ b
least_of_one P None None p q = refl
least_of_one P None (Some n) p q = absurd (p n q.there)
least_of_one P (Some m) None p q = absurd (q m p.there)
least_of_one P (Some m) (Some n) p q = let h = p.least n q.there in let k = q.least m p.there in let i : m ≡ n = omega arith in ap Some i

end_at_box : (targets : List Spot) (box : Spot) (e : Entry) (n : ℕ) → Contains targets box → IsEndAt box e n → IsEnd targets e n
end_at_box targets box e n c h = record {
  box = box;
  listed = c;
  same_layer = h.same_layer;
  common = h.common;
  is_common = h.is_common;
  way = h.way;
  distance = h.distance;
  sum = h.sum;
}

box_of_end : (targets : List Spot) (e : Entry) (n : ℕ) (h : IsEnd targets e n) → IsEndAt h.box e n
box_of_end targets e n h = record { same_layer = h.same_layer; common = h.common; is_common = h.is_common; way = h.way; distance = h.distance; sum = h.sum }

end_among : (few more : List Spot) (e : Entry) (n : ℕ) (h : IsEnd few e n) → Contains more h.box → IsEnd more e n
end_among few more e n h c = end_at_box more h.box e n c (box_of_end few e n h)

-- an end among some boxes and one more is an end among them, or at that one
pub ends_more : (targets : List Spot) (i : ℕ) (x : Spot) (e : Entry) → i < length targets → x ≡ get_or targets i x → IsEither (IsEnd (take i targets) e) (IsEndAt x e) (IsEnd (take (i + 1) targets) e)
ends_more targets i x e l is = record {
  first = λ n h. end_among (take i targets) (take (i + 1) targets) e n h (taken_before targets i x h.box l is h.listed);
  second = λ n h. end_at_box (take (i + 1) targets) x e n (taken_last targets i x l is) h;
  cases = λ n h.
      elim (taken_cases targets i x h.box l is h.listed) [
        | inl c ↦ inl (end_among (take (i + 1) targets) (take i targets) e n h c)
        | inr q ↦ (let P : Spot → Type 0 = λ y. IsEndAt y e n in inr (subst P (sym q) (box_of_end (take (i + 1) targets) e n h)))
      ];
}

-- an end of some entries and one more is an end of them, or of that one
pub some_ends_more : (targets : List Spot) (entries : List Entry) (i : ℕ) (x : Entry) → i < length entries → x ≡ get_or entries i x → IsEither (IsSomeEnd targets (take i entries)) (IsEnd targets x) (IsSomeEnd targets (take (i + 1) entries))
some_ends_more targets entries i x l is = record {
  first = λ n h. record { entry = h.entry; listed = taken_before entries i x h.entry l is h.listed; is_end = h.is_end };
  second = λ n h. record { entry = x; listed = taken_last entries i x l is; is_end = h };
  cases = λ n h.
      elim (taken_cases entries i x h.entry l is h.listed) [
        | inl c ↦ inl (record { entry = h.entry; listed = c; is_end = h.is_end })
        | inr q ↦ (let P : Entry → Type 0 = λ y. IsEnd targets y n in inr (subst P (sym q) h.is_end))
      ];
}

-- the one end at a box
pub end_at_only : (box : Spot) (e : Entry) (common : Rect) (way : ℕ) → box.layer ≡ e.layer → IsMeet e.strip box.area common → IsDistance e.front common way → IsLeast (IsEndAt box e) (e.cost + way)
end_at_only box e common way l m d = record {
  there = record { same_layer = l; common = common; is_common = m; way = way; distance = d; sum = refl };
  least = λ n h.
      let P : Rect → Type 0 = λ r. IsDistance e.front r h.way in
      let is = distance_one e.front common h.way way (subst P (meet_one e.strip box.area h.common common h.is_common m) h.distance) d in
      omega (arith, h.sum, is);
}

pub no_end_at : (box : Spot) (e : Entry) → ShareNoPoint e.strip box.area → (n : ℕ) → IsEndAt box e n → ⊥
no_end_at box e s n h = meet_not_apart e.strip box.area h.common s h.is_common

no_end_from : (targets : List Spot) (entries : List Entry) → ((n : ℕ) → IsSomeEnd targets entries n → ⊥) → HasNoEnd targets entries
no_end_from targets entries none = λ e box c d l p h k.
    let m = find_meet e.strip box.area p h k in
    let w = find_distance e.front m.0 in
    none (e.cost + w.0)
    (record { entry = e; listed = c; is_end = end_at_box targets box e (e.cost + w.0) d (record { same_layer = l; common = m.0; is_common = m.1; way = w.0; distance = w.1; sum = refl }) })

-- the least of all ends is the bound
pub bound_from_least : (targets : List Spot) (entries : List Entry) (o : Option ℕ) → IsLeastOf (IsSomeEnd targets entries) o → IsBoundOf targets entries o
bound_from_least targets entries None none = no_end_from targets entries none
bound_from_least targets entries (Some d) l = record {
  entry = l.there.entry;
  listed = l.there.listed;
  reached = l.there.is_end;
  least = λ e n c h. l.least n (record { entry = e; listed = c; is_end = h });
}

pub least_from_bound : (targets : List Spot) (entries : List Entry) (o : Option ℕ) → IsBoundOf targets entries o → IsLeastOf (IsSomeEnd targets entries) o
least_from_bound targets entries None none = λ n h.
    no_end_at h.is_end.box h.entry (none h.entry h.is_end.box h.listed h.is_end.listed h.is_end.same_layer) n (box_of_end targets h.entry n h.is_end)
least_from_bound targets entries (Some d) l = record {
  there = record { entry = l.entry; listed = l.listed; is_end = l.reached };
  least = λ n h. l.least h.entry n h.listed h.is_end;
}

-- among no items there is no end
pub no_end_yet : (targets : List Spot) (e : Entry) (n : ℕ) → IsEnd (take 0 targets) e n → ⊥
no_end_yet targets e n h = let l = h.listed.1 in absurd (omega (arith, l))

pub no_entry_yet : (targets : List Spot) (entries : List Entry) (n : ℕ) → IsSomeEnd targets (take 0 entries) n → ⊥
no_entry_yet targets entries n h = let l = h.listed.1 in absurd (omega (arith, l))
