-- Where `put_in` puts a front, and what stays true of each.
use Rattle.std.proofs.Common.{◌≡◌, ◌≤◌, refl, ap, ◌∙◌, Bool, true, false, nat_lt, suc, List, [], ◌∷◌, ◌++◌, length}
use Rattle.std.specs.Prelude.{All}
use Rattle.std.proofs.lemmas.Bool.{ltb-false}
use Rattle.std.proofs.lemmas.List.{length-map}
use Rattle.std.proofs.lemmas.List.Elements.{All-nil, All-cons, All-head, All-tail}
use Rattle.wavefront.specs.PushOrder.{Numbered, put_in, in_push_order, pair_of, pairs_of}

-- x comes to stand within ys, behind none that was pushed after it
pub record IsPutIn (x : Numbered) (ys : List Numbered) : Type 0 where
  pub before : List Numbered
  pub after : List Numbered
  pub was : ys ≡ before ++ after
  pub now : put_in x ys ≡ before ++ x ∷ after
  pub earlier : All (λ y. y.0.1 ≤ x.0.1) before

put_next : (x y : Numbered) (ys : List Numbered) → IsPutIn x ys → (b : Bool) → nat_lt x.0.1 y.0.1 ≡ b → IsPutIn x (y ∷ ys)
put_next x y ys s true e = record { before = []; after = y ∷ ys; was = refl; now = rw e; earlier = All-nil (λ z. z.0.1 ≤ x.0.1) }
put_next x y ys s false e = record {
  before = y ∷ s.before;
  after = s.after;
  was = ap (λ (zs : List Numbered). y ∷ zs) s.was;
  now = rw e (ap (λ (zs : List Numbered). y ∷ zs) s.now);
  earlier = All-cons (λ z. z.0.1 ≤ x.0.1) y s.before (ltb-false x.0.1 y.0.1 e) s.earlier;
}

pub find_put : (x : Numbered) (ys : List Numbered) → IsPutIn x ys
find_put x [] = record { before = []; after = []; was = refl; now = refl; earlier = All-nil (λ z. z.0.1 ≤ x.0.1) }
find_put x (y ∷ ys) = put_next x y ys (find_put x ys) (nat_lt x.0.1 y.0.1) refl

all_put_by : (P : Numbered → Type 0) (x y : Numbered) (ys : List Numbered) → P x → P y → All P ys → All P (put_in x ys) → (b : Bool) → nat_lt x.0.1 y.0.1 ≡ b → All P (put_in x (y ∷ ys))
all_put_by P x y ys p q all put true e = rw e (All-cons P x (y ∷ ys) p (All-cons P y ys q all))
all_put_by P x y ys p q all put false e = rw e (All-cons P y (put_in x ys) q put)

all_put : (P : Numbered → Type 0) (x : Numbered) (ys : List Numbered) → P x → All P ys → All P (put_in x ys)
all_put P x [] p all = All-cons P x [] p all
all_put P x (y ∷ ys) p all = all_put_by P x y ys p (All-head P y ys all) (All-tail P y ys all) (all_put P x ys p (All-tail P y ys all)) (nat_lt x.0.1 y.0.1) refl

-- what holds of each front holds of each in the order of the pushes
pub all_in_order : (P : Numbered → Type 0) (xs : List Numbered) → All P xs → All P (in_push_order xs)
all_in_order P [] all = all
all_in_order P (x ∷ xs) all = all_put P x (in_push_order xs) (All-head P x xs all) (all_in_order P xs (All-tail P x xs all))

length_put_by : (x y : Numbered) (ys : List Numbered) → length (put_in x ys) ≡ suc (length ys) → (b : Bool) → nat_lt x.0.1 y.0.1 ≡ b → length (put_in x (y ∷ ys)) ≡ suc (length (y ∷ ys))
length_put_by x y ys put true e = rw e
length_put_by x y ys put false e = rw e (ap suc put)

length_put : (x : Numbered) (ys : List Numbered) → length (put_in x ys) ≡ suc (length ys)
length_put x [] = refl
length_put x (y ∷ ys) = length_put_by x y ys (length_put x ys) (nat_lt x.0.1 y.0.1) refl

length_in_order : (xs : List Numbered) → length (in_push_order xs) ≡ length xs
length_in_order [] = refl
length_in_order (x ∷ xs) = length_put x (in_push_order xs) ∙ ap suc (length_in_order xs)

-- as many pairs wait as the map has entries
pub length_pairs : (xs : List Numbered) → length (pairs_of xs) ≡ length xs
length_pairs xs = length-map (in_push_order xs) pair_of ∙ length_in_order xs
