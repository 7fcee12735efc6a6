-- What calls on a stream do to the bytes that it tells, and to its count of faults.
use Rattle.std.specs.Prelude.{◌≡◌, ℕ, ◌<◌, ◌≤◌, ◌⊎◌, List, ◌++◌, length, take, Option, Some, None}

-- A count has risen in a call: it is greater after it than before, or has come to the last value of a u64.
abbrev pub Rose : ℕ → ℕ → Type 0
Rose before after = (before < after) ⊎ (18446744073709551615 ≤ after)

-- These are the bytes that a stream tells; one that tells none may hold any.
abbrev pub IsToldAs : Option (List ℕ) → List ℕ → Type 0
IsToldAs None bytes = Unit {0}
IsToldAs (Some told) bytes = told ≡ bytes

-- What a source has left before it gave these bytes, and after; it tells its bytes at both times or at neither.
abbrev pub Takes : Option (List ℕ) → Option (List ℕ) → List ℕ → Type 0
Takes None None bytes = Unit {0}
Takes None (Some after) bytes = ⊥
Takes (Some before) None bytes = ⊥
Takes (Some before) (Some after) bytes = before ≡ bytes ++ after

-- What a sink holds before it took these bytes, and after; it tells its bytes at both times or at neither.
abbrev pub Appends : Option (List ℕ) → Option (List ℕ) → List ℕ → Type 0
Appends None None bytes = Unit {0}
Appends None (Some after) bytes = ⊥
Appends (Some before) None bytes = ⊥
Appends (Some before) (Some after) bytes = after ≡ before ++ bytes

-- A source gave this many bytes.
abbrev pub TakesCount : Option (List ℕ) → Option (List ℕ) → ℕ → Type 0
TakesCount before after count = (bytes : List ℕ) × Takes before after bytes × (length bytes ≡ count)

-- A source gave at most this many bytes.
abbrev pub TakesAtMost : Option (List ℕ) → Option (List ℕ) → ℕ → Type 0
TakesAtMost before after most = (bytes : List ℕ) × Takes before after bytes × (length bytes ≤ most)

-- A sink took the first of these bytes, as many as it did, and not all of them.
abbrev pub AppendsPart : Option (List ℕ) → Option (List ℕ) → List ℕ → Type 0
AppendsPart before after bytes = (count : ℕ) × (count < length bytes) × Appends before after (take count bytes)

-- Whatever a source's bytes were when it began to give these bytes, with these left now, P holds of them.
abbrev pub GoesOn : Option (List ℕ) → List ℕ → (Option (List ℕ) → Type 0) → Type 0
GoesOn now bytes P = (begun : Option (List ℕ)) → Takes begun now bytes → P begun
