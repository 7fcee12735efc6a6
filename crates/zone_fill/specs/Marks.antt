-- What is marked of a list.
use Rattle.std.specs.Prelude.{Bool, true, false, List, [], ◌∷◌}

-- the items whose mark is set, in order
abbrev pub marked : {X : Type 0} → List Bool → List X → List X
marked [] xs = []
marked (m ∷ ms) [] = []
marked (true ∷ ms) (x ∷ xs) = x ∷ marked ms xs
marked (false ∷ ms) (x ∷ xs) = marked ms xs
