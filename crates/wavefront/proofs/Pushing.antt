-- A new entry of the map comes last in the order of the pushes.
use Rattle.std.proofs.Common.{ℕ, ◌≡◌, ◌+◌, ◌<◌, refl, ap, ◌∙◌, Bool, true, false, nat_lt, List, [], ◌∷◌, ◌++◌, map, arith}
use Rattle.std.specs.declared.cmp.Ordering.{Ordering}
use Rattle.std.specs.declared.cmp.Ordering.TheVariants.{Less, Equal, Greater}
use Rattle.std.specs.Ordering.{MatchOrdering, match_ordering, nat_cmp, ordering_then}
use Rattle.std.specs.BTreeMap.{insert_entry}
use Rattle.std.proofs.lemmas.Bool.{lt-ltb, le-ltb}
use Rattle.std.proofs.lemmas.Cmp.{ranked}
use Rattle.std.proofs.lemmas.List.{map-append}
use Rattle.std.proofs.lemmas.List.Elements.{All-cons, All-head, All-tail, All-weaker}
use Rattle.route_law.specs.declared.certs.Entry.{Entry}
use Rattle.wavefront.specs.PushOrder.{Numbered, put_in, in_push_order, pair_of, pairs_of, AreNumberedBelow}
use Rattle.wavefront.proofs.Order.{all_in_order}
use Rattle.wavefront.proofs.Popping.{by_key_and_push}

put_last : (x : Numbered) (ys : List Numbered) → AreNumberedBelow x.0.1 ys → put_in x ys ≡ ys ++ x ∷ []
put_last x [] all = refl
put_last x (y ∷ ys) all =
    let P : Numbered → Type 0 = λ z. z.0.1 < x.0.1 in
    let first : y.0.1 < x.0.1 = All-head P y ys all in
    let e : nat_lt x.0.1 y.0.1 ≡ false = le-ltb x.0.1 y.0.1 (omega arith) in
    rw e (ap (λ (zs : List Numbered). y ∷ zs) (put_last x ys (All-tail P y ys all)))

put_before_by : (y z x : Numbered) (zs : List Numbered) → put_in y (zs ++ x ∷ []) ≡ put_in y zs ++ x ∷ [] → (b : Bool) → nat_lt y.0.1 z.0.1 ≡ b → put_in y (z ∷ zs ++ x ∷ []) ≡ put_in y (z ∷ zs) ++ x ∷ []
put_before_by y z x zs put true e = rw e
put_before_by y z x zs put false e = rw e (ap (λ (ws : List Numbered). z ∷ ws) put)

-- what was pushed before x comes to stand before it
put_before : (y x : Numbered) (zs : List Numbered) → y.0.1 < x.0.1 → put_in y (zs ++ x ∷ []) ≡ put_in y zs ++ x ∷ []
put_before y x [] l = let e : nat_lt y.0.1 x.0.1 ≡ true = lt-ltb y.0.1 x.0.1 l in rw e
put_before y x (z ∷ zs) l = put_before_by y z x zs (put_before y x zs l) (nat_lt y.0.1 z.0.1) refl

not_equal_by : (n m : ℕ) (o p : Ordering) → m < n → MatchOrdering p (n < m) (n ≡ m) (m < n) → ordering_then o p ≡ Equal → ⊥
not_equal_by n m Less p l r e = cc
not_equal_by n m Equal Less l r e = cc
not_equal_by n m Equal Equal l r e = omega arith
not_equal_by n m Equal Greater l r e = cc
not_equal_by n m Greater p l r e = cc

not_equal : (a b : ℕ × ℕ) → b.1 < a.1 → by_key_and_push a b ≡ Equal → ⊥
not_equal a b l e = not_equal_by a.1 b.1 (nat_cmp a.0 b.0) (nat_cmp a.1 b.1) l (ranked a.1 b.1 _ refl) e

inserted_by : (x y : Numbered) (ys zs : List Numbered) → y.0.1 < x.0.1 → AreNumberedBelow x.0.1 (y ∷ ys) → in_push_order zs ≡ in_push_order ys ++ x ∷ [] → (o : Ordering) → by_key_and_push x.0 y.0 ≡ o
    → in_push_order (match_ordering o (x ∷ y ∷ ys) ((y.0, x.1) ∷ ys) (y ∷ zs)) ≡ in_push_order (y ∷ ys) ++ x ∷ []
inserted_by x y ys zs l all put Less e = put_last x (in_push_order (y ∷ ys)) (all_in_order (λ z. z.0.1 < x.0.1) (y ∷ ys) all)
inserted_by x y ys zs l all put Equal e = absurd (not_equal x.0 y.0 l e)
inserted_by x y ys zs l all put Greater e = ap (put_in y) put ∙ put_before y x (in_push_order ys) l

-- a new entry comes last
pub inserted : (k n : ℕ) (e : Entry) (xs : List Numbered) → AreNumberedBelow n xs → in_push_order (insert_entry by_key_and_push xs (k, n) e) ≡ in_push_order xs ++ ((k, n), e) ∷ []
inserted k n e [] all = refl
inserted k n e (y ∷ ys) all =
    let P : Numbered → Type 0 = λ z. z.0.1 < n in
    inserted_by ((k, n), e) y ys (insert_entry by_key_and_push ys (k, n) e) (All-head P y ys all) all (inserted k n e ys (All-tail P y ys all)) (by_key_and_push (k, n) y.0) refl

-- so does its pair
pub pushed : (k n : ℕ) (e : Entry) (xs : List Numbered) → AreNumberedBelow n xs → pairs_of (insert_entry by_key_and_push xs (k, n) e) ≡ pairs_of xs ++ record { key = k; entry = e } ∷ []
pushed k n e xs all = ap (λ (zs : List Numbered). map pair_of zs) (inserted k n e xs all) ∙ map-append pair_of (in_push_order xs) (((k, n), e) ∷ [])

more_by : (m : ℕ) (x y : Numbered) (ys zs : List Numbered) → x.0.1 < m → y.0.1 < m → AreNumberedBelow m ys → AreNumberedBelow m zs → (o : Ordering) → AreNumberedBelow m (match_ordering o (x ∷ y ∷ ys) ((y.0, x.1) ∷ ys) (y ∷ zs))
more_by m x y ys zs l h all put Less = let P : Numbered → Type 0 = λ z. z.0.1 < m in All-cons P x (y ∷ ys) l (All-cons P y ys h all)
more_by m x y ys zs l h all put Equal = All-cons (λ (z : Numbered). z.0.1 < m) (y.0, x.1) ys h all
more_by m x y ys zs l h all put Greater = All-cons (λ (z : Numbered). z.0.1 < m) y zs h put

numbered_insert : (m k n : ℕ) (e : Entry) (xs : List Numbered) → n < m → AreNumberedBelow m xs → AreNumberedBelow m (insert_entry by_key_and_push xs (k, n) e)
numbered_insert m k n e [] l all = All-cons (λ (z : Numbered). z.0.1 < m) ((k, n), e) [] l all
numbered_insert m k n e (y ∷ ys) l all =
    let P : Numbered → Type 0 = λ z. z.0.1 < m in
    let rest : AreNumberedBelow m ys = All-tail P y ys all in
    more_by m ((k, n), e) y ys (insert_entry by_key_and_push ys (k, n) e) l (All-head P y ys all) rest (numbered_insert m k n e ys l rest) (by_key_and_push (k, n) y.0)

-- after the push numbered n each number is below n + 1
pub numbered_more : (k n : ℕ) (e : Entry) (xs : List Numbered) → AreNumberedBelow n xs → AreNumberedBelow (n + 1) (insert_entry by_key_and_push xs (k, n) e)
numbered_more k n e xs all = numbered_insert (n + 1) k n e xs (omega arith) (All-weaker (λ (z : Numbered). z.0.1 < n) (λ (z : Numbered). z.0.1 < n + 1) (λ z h. omega arith) xs all)
