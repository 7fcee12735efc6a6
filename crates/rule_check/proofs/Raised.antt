-- A fact of all items of a list that changes from item to item, as a bound that is raised.
use Rattle.std.proofs.Common.{ℕ, ◌+◌, ◌<◌, ◌≤◌, List, length, get_or, take, subst}
use Rattle.std.specs.List.{All}
use Rattle.std.proofs.lemmas.List.{take_all}
use Rattle.std.proofs.lemmas.List.Elements.{All-weaker, All-more}

-- the items so far and one more pass a weaker test
pub All-raised : {X : Type 0} (P Q : X → Type 0) (xs : List X) (i : ℕ) (d : X) → i < length xs → ((x : X) → P x → Q x) → All P (take i xs) → Q (get_or xs i d) → All Q (take (i + 1) xs)
All-raised P Q xs i d l w h q = All-more Q xs i d l (All-weaker P Q w (take i xs) h) q

-- all items, once they all were passed
pub All-whole : {X : Type 0} (P : X → Type 0) (xs : List X) (i : ℕ) → length xs ≤ i → All P (take i xs) → All P xs
All-whole P xs i l h = subst (All P) (take_all i xs l) h
