-- Where an item of a list stands among those that pass a test.
use Rattle.std.proofs.Common.{◌≡◌, ℕ, zero, suc, ◌<◌, Bool, true, false, cond, List, [], ◌∷◌, length, get_or, filter, take, drop, slice_get, Some, ap, sym, subst, ◌∙◌, refl, arith}
use Rattle.std.proofs.lemmas.List.{take-append-drop, take_at}
use Rattle.std.proofs.lemmas.List.Elements.{filter-append}

at_head : {X : Type 0} (b : Bool) (x y : X) (ys zs : List X) (n : ℕ) → slice_get ys n ≡ Some x → (n ≡ length zs) → slice_get (cond b (y ∷ ys) ys) (length (cond b (y ∷ zs) zs)) ≡ Some x
at_head true x y ys zs n h e = subst (λ m. slice_get ys m ≡ Some x) e h
at_head false x y ys zs n h e = subst (λ m. slice_get ys m ≡ Some x) e h

-- an item that passes stands after those before it that pass
pub slice_get-filter : {X : Type 0} (p : X → Bool) (xs : List X) (i : ℕ) (x : X) → i < length xs → x ≡ get_or xs i x → p x ≡ true → slice_get (filter p xs) (length (filter p (take i xs))) ≡ Some x
slice_get-filter p [] i x lt e h = absurd (omega arith)
slice_get-filter p (y ∷ ys) zero x lt e h =
    let here : p y ≡ true = subst (λ z. p z ≡ true) e h in
    ap (λ b. slice_get (cond b (y ∷ filter p ys) (filter p ys)) 0) here ∙ ap Some (sym e)
slice_get-filter p (y ∷ ys) (suc i) x lt e h =
    at_head (p y) x y (filter p ys) (filter p (take i ys)) (length (filter p (take i ys))) (slice_get-filter p ys i x (omega arith) e h) refl

-- the first that pass are those that pass among the first
pub take-filter : {X : Type 0} (p : X → Bool) (xs : List X) (i n : ℕ) → n ≡ length (filter p (take i xs)) → take n (filter p xs) ≡ filter p (take i xs)
take-filter p xs i n e =
    ap (λ ys. take n (filter p ys)) (sym (take-append-drop i xs)) ∙ ap (take n) (filter-append p (take i xs) (drop i xs)) ∙ take_at (filter p (take i xs)) (filter p (drop i xs)) n (sym e)
