-- One more entry in the chains.
use Rattle.std.proofs.Common.{ℕ, ◌≡◌, ◌+◌, ◌<◌, ◌≤◌, inl, inr, refl, ap, sym, ◌∙◌, subst, Bool, true, false, cond, List, [], ◌∷◌, ◌++◌, length, get_or, Option, Some, None, arith}
use Rattle.std.specs.List.{AllWithin, HoldsAt}
use Rattle.std.specs.Ordering.{is_eq, eq_by_cmp}
use Rattle.std.specs.Cmp.{IsEquivalence, IsTotalOrder}
use Rattle.std.specs.Map.{lookup}
use Rattle.std.specs.BTreeMap.{BTreeMap, get, is_at}
use Rattle.std.proofs.lemmas.Bool.{cases_lt}
use Rattle.std.proofs.lemmas.Cmp.{eq_by_cmp_equiv, then_total, on_total, nat_cmp_total, int_cmp_total}
use Rattle.std.proofs.lemmas.List.{get_or_append_left, get_or_push, length_push}
use Rattle.std.proofs.lemmas.List.Elements.{AllWithin-more}
use Rattle.route_law.specs.declared.certs.Entry.{Entry}
use Rattle.wavefront.specs.Chains.{Corner, by_corner, corner, is_at_corner, IsLatest, IsLatestAt, AreChained}

-- the corner of an entry
abbrev pub corner_of : Entry → Corner
corner_of e = corner e.layer e.strip

corners_total : IsTotalOrder by_corner
corners_total = then_total (then_total (on_total (λ (c : Corner). c.0) nat_cmp_total) (on_total (λ (c : Corner). c.1) int_cmp_total)) (on_total (λ (c : Corner). c.2) int_cmp_total)

-- that corners are the same is an equivalence
pub same_corner : IsEquivalence (eq_by_cmp by_corner)
same_corner = eq_by_cmp_equiv corners_total

within_grown : {X : Type 0} (P : X → Type 0) (xs ys : List X) (low n : ℕ) → n ≤ length xs → AllWithin P xs low n → AllWithin P (xs ++ ys) low n
within_grown P xs ys low n l all k d from to =
    let inside : k < length xs = omega arith in
    subst P (sym (get_or_append_left xs ys d k inside)) (all k d from to)

-- what is latest among the first stays so when one more comes
latest_grown : (q : Corner) (xs : List Entry) (y : Entry) (n : ℕ) (o : Option ℕ) → n ≤ length xs → IsLatest q xs n o → IsLatest q (xs ++ y ∷ []) n o
latest_grown q xs y n None l all = within_grown (λ e. is_at_corner q e ≡ false) xs (y ∷ []) 0 n l all
latest_grown q xs y n (Some i) l h =
    let P : Entry → Type 0 = λ e. is_at_corner q e ≡ true in
    let below : i < n = h.below in
    let inside : i < length xs = omega arith in
    record {
      below = h.below;
      at_corner = λ d. subst P (sym (get_or_append_left xs (y ∷ []) d i inside)) (h.at_corner d);
      none_after = within_grown (λ e. is_at_corner q e ≡ false) xs (y ∷ []) (i + 1) n l h.none_after;
    }

at_end : (P : Entry → Type 0) (xs : List Entry) (y : Entry) → P y → HoldsAt P (xs ++ y ∷ []) (length xs)
at_end P xs y p d = subst P (sym (get_or_push xs y d (length xs) refl)) p

-- the new entry is the latest at its corner
latest_here : (q : Corner) (xs : List Entry) (y : Entry) → is_at_corner q y ≡ true → IsLatest q (xs ++ y ∷ []) (length xs + 1) (Some (length xs))
latest_here q xs y e = record {
  below = omega arith;
  at_corner = at_end (λ z. is_at_corner q z ≡ true) xs y e;
  none_after = λ k d from to. absurd (omega arith);
}

-- at another corner the latest stays
latest_elsewhere : (q : Corner) (xs : List Entry) (y : Entry) (o : Option ℕ) → is_at_corner q y ≡ false → IsLatest q xs (length xs) o → IsLatest q (xs ++ y ∷ []) (length xs + 1) o
latest_elsewhere q xs y None e all =
    let P : Entry → Type 0 = λ z. is_at_corner q z ≡ false in
    AllWithin-more P (xs ++ y ∷ []) 0 (length xs) (within_grown P xs (y ∷ []) 0 (length xs) (omega arith) all) (at_end P xs y e)
latest_elsewhere q xs y (Some i) e h =
    let P : Entry → Type 0 = λ z. is_at_corner q z ≡ false in
    let grown : IsLatestAt q (xs ++ y ∷ []) (length xs) i = latest_grown q xs y (length xs) (Some i) (omega arith) h in
    record {
      below = omega (arith, h.below);
      at_corner = grown.at_corner;
      none_after = AllWithin-more P (xs ++ y ∷ []) (i + 1) (length xs) grown.none_after (at_end P xs y e);
    }

latest_by : (q : Corner) (xs : List Entry) (y : Entry) (old new : Option ℕ) (b : Bool) → is_eq (by_corner (corner_of y) q) ≡ b → new ≡ cond b (Some (length xs)) old → IsLatest q xs (length xs) old → IsLatest q (xs ++ y ∷ []) (length xs + 1) new
latest_by q xs y old new true e is h =
    let P : Option ℕ → Type 0 = λ o. IsLatest q (xs ++ y ∷ []) (length xs + 1) o in
    subst P (sym is) (latest_here q xs y (same_corner.symm q (corner_of y) ∙ e))
latest_by q xs y old new false e is h =
    let P : Option ℕ → Type 0 = λ o. IsLatest q (xs ++ y ∷ []) (length xs + 1) o in
    subst P (sym is) (latest_elsewhere q xs y old (same_corner.symm q (corner_of y) ∙ e) h)

-- with the new entry tied to the latest before it, and the map at its number, all are chained
pub chained_more : (xs : List Entry) (earlier : List (Option ℕ)) (m n : BTreeMap Corner ℕ) (y : Entry) → AreChained xs earlier m
    → ((q : Corner) → get by_corner n q ≡ cond (is_eq (by_corner (corner_of y) q)) (Some (length xs)) (get by_corner m q))
    → AreChained (xs ++ y ∷ []) (earlier ++ get by_corner m (corner_of y) ∷ []) n
chained_more xs earlier m n y h updates =
    let o = get by_corner m (corner_of y) in
    let P : ℕ → Entry → Option ℕ → Type 0 = λ k e p. IsLatest (corner_of e) (xs ++ y ∷ []) k p in
    record {
      as_many = length_push earlier o ∙ ap (λ (k : ℕ). k + 1) h.as_many ∙ sym (length_push xs y);
      each = λ k d l.
          let inside : k < length xs + 1 = subst (λ (z : ℕ). k < z) (length_push xs y) l in
          elim (cases_lt k (length xs)) [
            | inl before ↦
                let links : k < length earlier = omega (arith, h.as_many) in
                let grown : P k (get_or xs k d) (get_or earlier k None) = latest_grown (corner_of (get_or xs k d)) xs y k (get_or earlier k None) (omega arith) (h.each k d before) in
                subst (P k (get_or (xs ++ y ∷ []) k d)) (sym (get_or_append_left earlier (o ∷ []) None k links))
                (subst (λ (e : Entry). P k e (get_or earlier k None)) (sym (get_or_append_left xs (y ∷ []) d k before)) grown)
            | inr later ↦
                let here : length xs ≡ k = omega (arith, inside, later) in
                let grown : P (length xs) y o = latest_grown (corner_of y) xs y (length xs) o (omega arith) (h.last (corner_of y)) in
                subst (P k (get_or (xs ++ y ∷ []) k d)) (sym (get_or_push earlier o None k (h.as_many ∙ here)))
                (subst (λ (e : Entry). P k e o) (sym (get_or_push xs y d k here)) (subst (λ (z : ℕ). P z y o) here grown))
          ];
      last = λ q.
          let more : IsLatest q (xs ++ y ∷ []) (length xs + 1) (get by_corner n q) = latest_by q xs y (get by_corner m q) (get by_corner n q) (is_eq (by_corner (corner_of y) q)) refl (updates q) (h.last q) in
          subst (λ (z : ℕ). IsLatest q (xs ++ y ∷ []) z (get by_corner n q)) (sym (length_push xs y)) more;
    }

-- the same for lists and a map that are known by what they equal
pub chained_as : (xs ys zs : List Entry) (earlier between links : List (Option ℕ)) (m n : BTreeMap Corner ℕ) (y : Entry) (c : Corner) (o : Option ℕ) (number : ℕ)
    → zs ≡ ys ++ y ∷ [] → ys ≡ xs → links ≡ between ++ o ∷ [] → between ≡ earlier → o ≡ get by_corner m c → c ≡ corner_of y → number ≡ length xs
    → ((q : Corner) → get by_corner n q ≡ cond (is_eq (by_corner c q)) (Some number) (get by_corner m q))
    → AreChained xs earlier m → AreChained zs links n
chained_as xs ys zs earlier between links m n y c o number pushed kept linked same found at counted updates h =
    let more : (q : Corner) → get by_corner n q ≡ cond (is_eq (by_corner (corner_of y) q)) (Some (length xs)) (get by_corner m q)
    = λ q. updates q ∙ (ap (λ (z : Corner). cond (is_eq (by_corner z q)) (Some number) (get by_corner m q)) at ∙ ap (λ (k : ℕ). cond (is_eq (by_corner (corner_of y) q)) (Some k) (get by_corner m q)) counted) in
    let link : o ≡ get by_corner m (corner_of y) = found ∙ ap (λ (z : Corner). get by_corner m z) at in
    let entries_are : zs ≡ xs ++ y ∷ [] = pushed ∙ ap (λ (es : List Entry). es ++ y ∷ []) kept in
    let links_are : links ≡ earlier ++ get by_corner m (corner_of y) ∷ [] = linked ∙ (ap (λ (ls : List (Option ℕ)). ls ++ o ∷ []) same ∙ ap (λ (p : Option ℕ). earlier ++ p ∷ []) link) in
    subst (λ (es : List Entry). AreChained es links n) (sym entries_are)
    (subst (λ (ls : List (Option ℕ)). AreChained (xs ++ y ∷ []) ls n) (sym links_are) (chained_more xs earlier m n y h more))

-- nothing has changed
pub chained_still : (xs ys : List Entry) (earlier links : List (Option ℕ)) (m n : BTreeMap Corner ℕ) → ys ≡ xs → links ≡ earlier → n.entries ≡ m.entries → AreChained xs earlier m → AreChained ys links n
chained_still xs ys earlier links m n kept same unchanged h =
    let still : AreChained xs earlier n = record {
      as_many = h.as_many;
      each = h.each;
      last = λ q. subst (λ (es : List (Corner × ℕ)). IsLatest q xs (length xs) (lookup (is_at (by_corner q)) es)) (sym unchanged) (h.last q);
    } in
    subst (λ (es : List Entry). AreChained es links n) (sym kept) (subst (λ (ls : List (Option ℕ)). AreChained xs ls n) (sym same) still)
