-- The last of a list is the first of the list the other way round.
use Rattle.std.proofs.Common.{◌≡◌, ◌-◌, refl, sym, ap, subst, ◌∙◌, List, [], ◌∷◌, ◌++◌, reverse, length, Some, length-append, arith}
use Rattle.std.specs.Prelude.{slice_get}
use Rattle.std.proofs.lemmas.List.{reverse-append, reverse-reverse, get_or_at}
use Rattle.std.proofs.lemmas.Option.{slice_get_read}

pub reverse-push : {A : Type 0} (xs : List A) (x : A) → reverse (xs ++ x ∷ []) ≡ x ∷ reverse xs
reverse-push xs x = reverse-append xs (x ∷ [])

last_pushed : {A : Type 0} (xs : List A) (x : A) → slice_get (xs ++ x ∷ []) (length (xs ++ x ∷ []) - 1) ≡ Some x
last_pushed xs x =
    let all : List _ = xs ++ x ∷ [] in
    let size = length-append xs (x ∷ []) in
    let n : length xs ≡ length all - 1 = omega (arith, size) in
    slice_get_read all (length all) (length all - 1) x refl (omega (arith, size)) (sym (get_or_at xs x [] x (length all - 1) n))

last_of : {A : Type 0} (ys : List A) → slice_get (reverse ys) (length (reverse ys) - 1) ≡ slice_get ys 0
last_of [] = refl
last_of (y ∷ ys) =
    let e : reverse (y ∷ ys) ≡ reverse ys ++ y ∷ [] = reverse-append (y ∷ []) ys in
    ap (λ (zs : List _). slice_get zs (length zs - 1)) e ∙ last_pushed (reverse ys) y

pub last_is_first : {A : Type 0} (xs : List A) → slice_get xs (length xs - 1) ≡ slice_get (reverse xs) 0
last_is_first xs =
    let P : List _ → Type 0 = λ zs. slice_get zs (length zs - 1) ≡ slice_get (reverse xs) 0 in
    subst P (reverse-reverse xs) (last_of (reverse xs))
