-- The items of connections, one by one.
use Rattle.std.proofs.Common.{ℕ, Bool, true, false, IsTrue, ◌↔◌, All, zero, suc, ◌≡◌, ◌+◌, ◌<◌, ◌≤◌, List, [], ◌∷◌, ◌++◌, length, take, get_or, refl, sym, ◌∙◌, ap, subst, arith}
use Rattle.std.proofs.Math.Seq.{take-suc}
use Rattle.std.proofs.lemmas.List.{length-take-le, take_all}
use Rattle.std.proofs.lemmas.List.Elements.{All-nil, All-cons, All-append}
use Rattle.std.proofs.lemmas.Option.{same_Some, slice_get_read}
use Rattle.std.specs.Prelude.{Option, Some, None, IfSome, IfNone, slice_get}
use Rattle.board_model.specs.declared.made.Conn.{Conn}
use Rattle.route_law.specs.declared.replies.Item.{Item}
use Rattle.route_law.specs.Steps.{items_from}
use Rattle.replay_check.specs.Items.{item_at}

-- what a test that fails or holds says
never : (P : Type 0) → IsTrue false → P
never P h = let n : ⊥ = cc in absurd n

pub not_so : (P : Type 0) → (P → ⊥) → IsTrue false ↔ P
not_so P n = (λ h. never P h, λ p. absurd (n p))

pub is_so : (P : Type 0) → P → IsTrue true ↔ P
is_so P p = (λ h. p, λ k. refl)

pub not_true : (P : Type 0) → IsTrue false ↔ P → P → ⊥
not_true P e p = never ⊥ (e.1 p)

pub not_both : (b : Bool) → IsTrue b → b ≡ false → ⊥
not_both b t f = let P : Bool → Type 0 = λ x. IsTrue x in never ⊥ (subst P f t)

-- one item more of a list
pub one_more_at : {A : Type 0} (xs : List A) (i : ℕ) (d : A) → i < length xs → take (i + 1) xs ≡ take i xs ++ get_or xs i d ∷ []
one_more_at {A} xs i d l =
    let next : suc i ≡ i + 1 = omega arith in
    let Q : ℕ → Type 0 = λ m. take m xs ≡ take i xs ++ (get_or xs i d ∷ []) in
    subst Q next (take-suc xs i d l)

pub one_more : {A : Type 0} (xs : List A) (i : ℕ) (x : A) → i < length xs → get_or xs i x ≡ x → take (i + 1) xs ≡ take i xs ++ x ∷ []
one_more {A} xs i x l e = let P : A → Type 0 = λ y. take (i + 1) xs ≡ take i xs ++ (y ∷ []) in subst P e (one_more_at xs i x l)

module _ {A : Type 0} (xs : List A) (i : ℕ) (x : A) (in_xs : i < length xs) (is_x : x ≡ get_or xs i x) where
  module _ (ys : List A) (y : A) (in_ys : i < length ys) (is_y : y ≡ get_or ys i y) where
    pub same_more : take i xs ≡ take i ys → x ≡ y → take (i + 1) xs ≡ take (i + 1) ys
    same_more h e =
        let F : List A → List A = λ zs. zs ++ x ∷ [] in
        let G : A → List A = λ z. take i ys ++ z ∷ [] in
        one_more xs i x in_xs (sym is_x) ∙ ap F h ∙ ap G e ∙ sym (one_more ys i y in_ys (sym is_y))

    pub same_there : xs ≡ ys → x ≡ y
    same_there e =
        let F : List A → Option A = λ zs. slice_get zs i in
        let a : slice_get xs i ≡ Some x = slice_get_read xs (length xs) i x refl in_xs is_x in
        let b : slice_get ys i ≡ Some y = slice_get_read ys (length ys) i y refl in_ys is_y in
        same_Some x y (sym a ∙ ap F e ∙ b)

-- what holds of the first items and of the next one holds of them all
pub all_after : {A : Type 0} (xs : List A) (i : ℕ) → i < length xs → (P : A → Type 0) → All P (take i xs) → (d : A) → P (get_or xs i d) → All P (take (i + 1) xs)
all_after xs i l P h d p =
    subst (All P) (sym (one_more_at xs i d l)) (All-append P (take i xs) (get_or xs i d ∷ []) h (All-cons P (get_or xs i d) [] p (All-nil P)))

pub all_taken : {A : Type 0} (xs ys : List A) (i : ℕ) → length xs ≡ length ys → length xs ≤ i → take i xs ≡ take i ys → xs ≡ ys
all_taken xs ys i e l h = sym (take_all i xs l) ∙ h ∙ take_all i ys (omega (arith, e, l))

items_append : (k : ℕ) (xs : List Conn) (c : Conn) → items_from k (xs ++ c ∷ []) ≡ items_from k xs ++ item_at (k + length xs) c ∷ []
items_append k [] c = let F : ℕ → List Item = λ n. item_at n c ∷ [] in ap F (omega arith)
items_append k (x ∷ xs) c =
    let F : List Item → List Item = λ ys. item_at k x ∷ ys in
    let G : ℕ → List Item = λ n. items_from (k + 1) xs ++ item_at n c ∷ [] in
    ap F (items_append (k + 1) xs c ∙ ap G (omega arith))

pub length-items_from : (k : ℕ) (xs : List Conn) → length (items_from k xs) ≡ length xs
length-items_from k [] = refl
length-items_from k (x ∷ xs) = let more = length-items_from (k + 1) xs in grind (arith, more)

get_or-items_from : (k : ℕ) (xs : List Conn) (i : ℕ) (d : Item) (c : Conn) → i < length xs → get_or (items_from k xs) i d ≡ item_at (k + i) (get_or xs i c)
get_or-items_from k [] i d c l = absurd (omega (arith, l))
get_or-items_from k (x ∷ xs) zero d c l = let F : ℕ → Item = λ n. item_at n x in ap F (omega arith)
get_or-items_from k (x ∷ xs) (suc i) d c l =
    let F : ℕ → Item = λ n. item_at n (get_or xs i c) in
    get_or-items_from (k + 1) xs i d c (omega (arith, l)) ∙ ap F (omega arith)

module _ (items : List Item) (conns : List Conn) (i : ℕ) (x : Item) (c : Conn) (in_items : i < length items) (in_conns : i < length conns) (is_item : get_or items i x ≡ x) (is_conn : get_or conns i c ≡ c) where
  pub items_more : take i items ≡ items_from 1 (take i conns) → x ≡ item_at (i + 1) c → take (i + 1) items ≡ items_from 1 (take (i + 1) conns)
  items_more h e =
      let F : List Item → List Item = λ xs. xs ++ x ∷ [] in
      let G : Item → List Item = λ y. items_from 1 (take i conns) ++ y ∷ [] in
      let H : ℕ → List Item = λ n. items_from 1 (take i conns) ++ item_at n c ∷ [] in
      let K : List Conn → List Item = λ cs. items_from 1 cs in
      let number : i + 1 ≡ 1 + length (take i conns) = omega (arith, length-take-le i conns (omega (arith, in_conns))) in
      one_more items i x in_items is_item ∙ ap F h ∙ ap G e ∙ ap H number ∙ sym (items_append 1 (take i conns) c) ∙ sym (ap K (one_more conns i c in_conns is_conn))

  pub item_wrong : (x ≡ item_at (i + 1) c → ⊥) → items ≡ items_from 1 conns → ⊥
  item_wrong wrong h =
      let F : List Item → Item = λ xs. get_or xs i x in
      let G : Conn → Item = λ y. item_at (1 + i) y in
      let H : ℕ → Item = λ n. item_at n c in
      wrong (sym is_item ∙ ap F h ∙ get_or-items_from 1 conns i x c in_conns ∙ ap G is_conn ∙ ap H (omega arith))

-- what holds of the value, if there is one, holds of this one
pub some_of : {A : Type 0} (o : Option A) (x : A) → o ≡ Some x → (P : A → Type 0) → IfSome o P → P x
some_of {A} o x e P h = let Q : Option A → Type 0 = λ p. IfSome p P in subst Q e h

pub some_weaker : {A : Type 0} (o : Option A) (P Q : A → Type 0) → ((x : A) → P x → Q x) → IfSome o P → IfSome o Q
some_weaker None P Q f h = tt
some_weaker (Some x) P Q f h = f x h

pub none_weaker : {A : Type 0} (o : Option A) (P Q : Type 0) → (P → Q) → IfNone o P → IfNone o Q
none_weaker None P Q f h = f h
none_weaker (Some x) P Q f h = tt
