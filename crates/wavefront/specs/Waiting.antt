-- What a queue of fronts holds, and what a pop takes out of it.
use Rattle.std.specs.Prelude.{ℕ, ◌≡◌, ◌<◌, ◌≤◌, List, ◌∷◌, ◌++◌, All}
use Rattle.route_law.specs.declared.certs.Entry.{Entry}

-- a front that waits, and the key under which it was pushed
pub record Pair : Type 0 where
  pub key : ℕ
  pub entry : Entry

-- the pairs that wait, in the order of their pushes, and how many pushes were made
pub record Waiting : Type 0 where
  pub pairs : List Pair
  pub pushes : ℕ

-- one pair is taken out of the old list, and the others stay as they were: each pair pushed before it
-- has a greater key, and each pair pushed after it no lesser one
pub record IsPopped (old : List Pair) (taken : Pair) (new : List Pair) : Type 0 where
  pub before : List Pair
  pub after : List Pair
  pub was : old ≡ before ++ taken ∷ after
  pub left : new ≡ before ++ after
  pub earlier : All (λ p. taken.key < p.key) before
  pub later : All (λ p. taken.key ≤ p.key) after
