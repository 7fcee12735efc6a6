-- The text of what came of routing a net through others: lines that end with one line feed, words with one space
-- between them, numbers in decimal, and names as the board has them.
use Rattle.std.specs.Prelude.{ℕ, ◌++◌, List, length, true, codes, decimal}
use Rattle.std.specs.List.{flat_map}
use Rattle.geo_rect.specs.declared.ids.NetId.{NetId}
use Rattle.board_parts.specs.declared.parts.BoardParts.{BoardParts}
use Rattle.board_parts.specs.Lookup.{net_name}
use Rattle.reply_text.specs.Texts.{rip_line, routed_text}
use Rattle.yield_route.specs.declared.told.Back.{Back}
use Rattle.yield_route.specs.declared.told.Back.TheVariants.{Kept, Out}
use Rattle.yield_route.specs.declared.told.Ripped.{Ripped}
use Rattle.yield_route.specs.declared.told.Through.{Through}

-- the first line: the net, and how many others there are
unfoldable pub through_line : BoardParts → NetId → ℕ → List ℕ
through_line b n others = codes "through " ++ net_name b n ++ codes " " ++ decimal others ++ codes "\n"

-- a line for each of the others: how many of its connections were removed
abbrev pub ripped_text : BoardParts → Ripped → List ℕ
ripped_text b r = rip_line b r.net r.count

-- the line of a net that has its connections again: how many
unfoldable pub kept_line : BoardParts → NetId → ℕ → List ℕ
kept_line b n count = codes "back " ++ net_name b n ++ codes " kept " ++ decimal count ++ codes "\n"

-- the line of a net that has none of them: the number of the first that is no walk
unfoldable pub out_line : BoardParts → NetId → ℕ → List ℕ
out_line b n number = codes "back " ++ net_name b n ++ codes " out " ++ decimal number ++ codes "\n"

-- a line for each of the others: what came of giving it back what it had
abbrev pub back_text : BoardParts → Back → List ℕ
back_text b (Kept n count) = kept_line b n count
back_text b (Out n number) = out_line b n number

-- the first line, a line for what was removed of each of the others, what came of the net without certificates,
-- and a line for what each of the others was given back
unfoldable pub through_text : BoardParts → NetId → Through → List ℕ
through_text b n t =
    through_line b n (length t.ripped) ++ flat_map (ripped_text b) t.ripped ++ routed_text b true t.routed ++ flat_map (back_text b) t.back
