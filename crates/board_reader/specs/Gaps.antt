-- The gaps of two classes: what the lines `clear` give, and where there is none for the two, what their rules give.
use Rattle.std.specs.Prelude.{ℕ, ℤ, pos, min, max, ◌==◌, Bool, ◌&&◌, if◌then◌else◌, List, [], ◌∷◌, Option, Some, None, map, unwrap_or}
use Rattle.std.specs.Int.{int_max}
use Rattle.std.specs.List.{range_with_len, flat_map}
use Rattle.board_parts.specs.declared.parts.Rule.{Rule}
use Rattle.board_reader.specs.declared.gaps.Clear.{Clear}
use Rattle.board_reader.specs.declared.tables.Entry.{Entry}
use Rattle.board_reader.specs.Tables.{value_at}

-- the line is for this layer and these two classes, whichever of them is named first
abbrev pub is_for : Clear → ℕ → ℕ → ℕ → Bool
is_for e layer one other = e.layer == layer && (e.low == min one other && e.high == max one other)

-- the gap that the first such line gives
unfoldable pub clear_at : List Clear → ℕ → ℕ → ℕ → Option ℤ
clear_at [] layer one other = None
clear_at (e ∷ es) layer one other = if is_for e layer one other then Some e.gap else clear_at es layer one other

-- the gap of a rule, and 1 where there is none
abbrev pub gap_in : Option Rule → ℤ
gap_in None = pos 1
gap_in (Some r) = r.gap

-- the gap of two classes on a layer: that of their line `clear`, or else the greater one of their rules
unfoldable pub gap_between : List (Entry Rule) → List Clear → ℕ → ℕ → ℕ → ℤ
gap_between rules clears layer one other = unwrap_or (clear_at clears layer one other) (int_max (gap_in (value_at rules layer one)) (gap_in (value_at rules layer other)))

-- the gaps that one class keeps to each on a layer
abbrev pub gaps_from : List (Entry Rule) → List Clear → ℕ → ℕ → ℕ → List ℤ
gaps_from rules clears classes layer one = map (gap_between rules clears layer one) (range_with_len 0 classes)

-- the gaps on a layer, by the first class and then by the second
abbrev pub gaps_on : List (Entry Rule) → List Clear → ℕ → ℕ → List ℤ
gaps_on rules clears classes layer = flat_map (gaps_from rules clears classes layer) (range_with_len 0 classes)

-- the gaps layer by layer
abbrev pub all_gaps : List (Entry Rule) → List Clear → ℕ → ℕ → List ℤ
all_gaps rules clears layers classes = flat_map (gaps_on rules clears classes) (range_with_len 0 layers)
