-- How a map by key and number of the push is seen as a list in the order of the pushes.
use Rattle.std.specs.Prelude.{ℕ, ◌<◌, nat_lt, List, [], ◌∷◌, map, cond, All}
use Rattle.route_law.specs.declared.certs.Entry.{Entry}
use Rattle.wavefront.specs.Waiting.{Pair}

-- a front under its key and the number of its push
abbrev pub Numbered : Type 0
Numbered = (ℕ × ℕ) × Entry

-- x put before the first that was pushed after it
abbrev pub put_in : Numbered → List Numbered → List Numbered
put_in x [] = x ∷ []
put_in x (y ∷ ys) = cond (nat_lt x.0.1 y.0.1) (x ∷ y ∷ ys) (y ∷ put_in x ys)

-- in the order of the pushes
abbrev pub in_push_order : List Numbered → List Numbered
in_push_order [] = []
in_push_order (x ∷ xs) = put_in x (in_push_order xs)

-- without the number of the push
abbrev pub pair_of : Numbered → Pair
pair_of x = record { key = x.0.0; entry = x.1 }

-- the pairs, in the order of their pushes
abbrev pub pairs_of : List Numbered → List Pair
pairs_of xs = map pair_of (in_push_order xs)

-- each push has a number less than n
abbrev pub AreNumberedBelow : ℕ → List Numbered → Type 0
AreNumberedBelow n xs = All (λ x. x.0.1 < n) xs
