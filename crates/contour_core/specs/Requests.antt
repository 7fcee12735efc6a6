-- What the words of a call ask for, and what holds of it.
use Rattle.std.specs.Prelude.{ℕ, List, ⊤}
use Rattle.call_words.specs.Asked.{Asked, Run, Check, Upgrade, Gen, Demo, Reporting, Following}
use Rattle.call_words.specs.Requests.{IsRequestOf}

-- the words ask for something, and of this P holds
pub record IsRequestThat (words : List (List ℕ)) (P : Asked → Type 0) : Type 0 where
  pub asked : Asked
  pub is : IsRequestOf words asked
  pub holds : P asked

-- what is asked for is done with the source
abbrev pub ReadsInput : Asked → Type 0
ReadsInput (Run quiet) = ⊤
ReadsInput Check = ⊤
ReadsInput Upgrade = ⊤
ReadsInput (Gen n) = ⊥
ReadsInput (Demo n) = ⊥
ReadsInput (Reporting r) = ⊤
ReadsInput (Following s) = ⊤
