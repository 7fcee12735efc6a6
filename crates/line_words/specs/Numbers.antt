-- Words as numbers.
use Rattle.std.specs.Prelude.{ℕ, ◌+◌, ◌-◌, ◌*◌, nat_le, Bool, ◌&&◌, if◌then◌else◌, List, [], ◌∷◌, length}
use Rattle.std.specs.List.{list_all}

-- a decimal digit
abbrev pub is_digit : ℕ → Bool
is_digit b = nat_le 48 b && nat_le b 57

-- at most twenty decimal digits
abbrev pub is_number : List ℕ → Bool
is_number w = nat_le (length w) 20 && list_all is_digit w

-- the number that v and then these digits say
abbrev pub value_from : ℕ → List ℕ → ℕ
value_from v [] = v
value_from v (b ∷ bs) = value_from (v * 10 + (b - 48)) bs

-- the number that a word says, and 0 for a word that is none
unfoldable pub number : List ℕ → ℕ
number w = if is_number w then value_from 0 w else 0
