-- What is left of the entries that may come before an arrival, on the way down a chain.
use Rattle.std.proofs.Common.{ℕ, ◌≡◌, ◌+◌, ◌<◌, inl, inr, ap, sym, ◌∙◌, subst, true, false, List, length, get_or, Option, Some, None, arith}
use Rattle.std.specs.List.{AllWithin, HoldsAt}
use Rattle.std.specs.Ordering.{eq_by_cmp}
use Rattle.std.specs.BTreeMap.{BTreeMap}
use Rattle.std.proofs.lemmas.Bool.{cases_order}
use Rattle.std.proofs.lemmas.List.{get_or_default, get_or_read}
use Rattle.geo_rect.specs.declared.ids.LayerId.{LayerId}
use Rattle.geo_rect.specs.declared.shapes.Rect.{Rect}
use Rattle.route_law.specs.declared.certs.Entry.{Entry}
use Rattle.route_law.specs.Moves.{Arrival}
use Rattle.wavefront.specs.Reached.{ComesBefore}
use Rattle.wavefront.specs.Chains.{Corner, by_corner, corner, is_at_corner, IsLatest, AreChained}
use Rattle.wavefront.proofs.Chained.{corner_of, same_corner}

abbrev pub arrival_corner : Arrival → Corner
arrival_corner a = corner a.layer a.strip

-- no entry from one number up to another comes before
abbrev pub NoneComes : Arrival → List Entry → ℕ → ℕ → Type 0
NoneComes a xs low high = AllWithin (λ e. ComesBefore e a → ⊥) xs low high

-- the entry numbered i is one of the corner, and none after it comes before
pub record IsLeftAt (a : Arrival) (xs : List Entry) (i : ℕ) : Type 0 where
  pub inside : i < length xs
  pub at_corner : HoldsAt (λ e. is_at_corner (arrival_corner a) e ≡ true) xs i
  pub none_after : NoneComes a xs (i + 1) (length xs)

-- only the entry numbered so, and those before it, may come before
abbrev pub IsLeft : Arrival → List Entry → Option ℕ → Type 0
IsLeft a xs None = NoneComes a xs 0 (length xs)
IsLeft a xs (Some i) = IsLeftAt a xs i

-- how many entries are left at most
abbrev pub left_count : Option ℕ → ℕ
left_count None = 0
left_count (Some i) = i + 1

-- an entry of another corner does not come before
elsewhere : (a : Arrival) (e : Entry) → is_at_corner (arrival_corner a) e ≡ false → ComesBefore e a → ⊥
elsewhere a e lacks h =
    let q = arrival_corner a in
    let same : corner_of e ≡ q = ap (λ (l : LayerId). corner l e.strip) h.same_layer ∙ ap (λ (s : Rect). corner a.layer s) h.same_strip in
    let here : is_at_corner q e ≡ true = subst (λ (c : Corner). eq_by_cmp by_corner q c ≡ true) (sym same) (same_corner.refl q) in
    cc

-- the search begins with the latest of the corner
pub left_first : (a : Arrival) (xs : List Entry) (o : Option ℕ) → IsLatest (arrival_corner a) xs (length xs) o → IsLeft a xs o
left_first a xs None all = λ k d from to. elsewhere a (get_or xs k d) (all k d from to)
left_first a xs (Some i) h = record {
  inside = h.below;
  at_corner = h.at_corner;
  none_after = λ k d from to. elsewhere a (get_or xs k d) (h.none_after k d from to);
}

-- the entry numbered i does not come before, nor does any of another corner
none_from : (a : Arrival) (xs : List Entry) (i low : ℕ) (d : Entry) → IsLeftAt a xs i → (ComesBefore (get_or xs i d) a → ⊥)
    → AllWithin (λ e. is_at_corner (corner_of (get_or xs i d)) e ≡ false) xs low i → NoneComes a xs low (length xs)
none_from a xs i low d h lacks all k e from to =
    elim (cases_order i k) [
      | inr (inr before) ↦
          let c = corner_of (get_or xs i d) in
          let same : is_at_corner (arrival_corner a) (get_or xs k e) ≡ is_at_corner c (get_or xs k e) = same_corner.congr (arrival_corner a) c (corner_of (get_or xs k e)) (h.at_corner d) in
          elsewhere a (get_or xs k e) (same ∙ all k e from before)
      | inl here ↦
          let P : Entry → Type 0 = λ z. ComesBefore z a → ⊥ in
          subst (λ (n : ℕ). P (get_or xs n e)) here (subst P (get_or_default xs i d e h.inside) lacks)
      | inr (inl after) ↦ h.none_after k e (omega arith) to
    ]

-- it goes on with the entry before
pub left_next : (a : Arrival) (xs : List Entry) (i : ℕ) (o : Option ℕ) (d : Entry) → IsLeftAt a xs i → (ComesBefore (get_or xs i d) a → ⊥)
    → IsLatest (corner_of (get_or xs i d)) xs i o → IsLeft a xs o
left_next a xs i None d h lacks all = none_from a xs i 0 d h lacks all
left_next a xs i (Some j) d h lacks l =
    let c = corner_of (get_or xs i d) in
    record {
      inside = omega (arith, h.inside, l.below);
      at_corner = λ e. same_corner.congr (arrival_corner a) c (corner_of (get_or xs j e)) (h.at_corner d) ∙ l.at_corner e;
      none_after = none_from a xs i (j + 1) d h lacks l.none_after;
    }

-- and each time less is left
pub left_less : (q : Corner) (xs : List Entry) (i : ℕ) (o : Option ℕ) → IsLatest q xs i o → left_count o < i + 1
left_less q xs i None l = omega arith
left_less q xs i (Some j) l = omega (arith, l.below)

-- the entry before, as it is read
pub link_at : (xs : List Entry) (earlier : List (Option ℕ)) (m : BTreeMap Corner ℕ) (i : ℕ) (d : Entry) (o : Option ℕ) → AreChained xs earlier m → i < length xs → o ≡ get_or earlier i o → IsLatest (corner_of (get_or xs i d)) xs i o
link_at xs earlier m i d o h l e =
    let inside : i < length earlier = omega (arith, h.as_many, l) in
    subst (λ (p : Option ℕ). IsLatest (corner_of (get_or xs i d)) xs i p) (sym (get_or_read earlier i o inside e None)) (h.each i d l)
