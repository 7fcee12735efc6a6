-- The boards that are generated: rows of one pin on the left and one on the right for each net, where the right
-- pins of neighbours are exchanged, so that the wires of a pair must cross, and a blockage in each row.
use Rattle.std.specs.Prelude.{ℕ, pos, ◌+◌, ◌-◌, ◌*◌, ◌%◌, ◌==◌, ◌≤ℤ◌, nat_lt, if◌then◌else◌, List, [], ◌∷◌, ◌++◌, map, codes, decimal}
use Rattle.std.specs.List.{flat_map, range_with_len}
use Rattle.std.proofs.Common.{arith}
use Rattle.std.proofs.lemmas.Int.{ints}
use Rattle.geo_rect.specs.declared.shapes.Interval.{Interval}
use Rattle.geo_rect.specs.declared.shapes.Rect.{Rect}
use Rattle.geo_rect.specs.Plane.{rect_of}
use Rattle.board_parts.specs.declared.commands.Command.{Command}
use Rattle.board_parts.specs.declared.commands.Command.TheVariants.{All, Rules}
use Rattle.board_parts.specs.declared.parts.Block.{Block}
use Rattle.board_parts.specs.declared.parts.BoardParts.{BoardParts}
use Rattle.board_parts.specs.declared.parts.Pin.{Pin}
use Rattle.board_parts.specs.declared.parts.Rule.{Rule}
use Rattle.board_parts.specs.Lookup.{layer_at}
use Rattle.board_text.specs.declared.spelling.Version.TheVariants.{First}
use Rattle.board_text.specs.Spelled.{spelled, class_at, net_at}

pub length-ordered : (a n : ℕ) → pos a ≤ℤ pos (a + n)
length-ordered a n = omega (arith, ints)

-- the numbers from a on, up to n more
abbrev pub from_on : ℕ → ℕ → Interval
from_on a n = record { low = pos a; high = pos (a + n); ordered = length-ordered a n }

-- the rectangle with this lower left corner, of this width and height
abbrev pub area_at : ℕ → ℕ → ℕ → ℕ → Rect
area_at x y width height = rect_of (from_on x width) (from_on y height)

-- the name of net i, from 1
abbrev pub net_name_of : ℕ → List ℕ
net_name_of i = codes "n" ++ decimal i

-- the rows are 100 apart; the blockages are spread over the columns between the pins
abbrev pub block_of : ℕ → Block
block_of i = record { layer = layer_at 0; area = area_at (2000 + (7001 * i) % 16000) (100 * i + 60) 200 20 }

-- the row of the right pin of net i of n: that of its neighbour, the next for an odd i and the one before for an
-- even i; the last of an odd number has none, and stays in its own row
abbrev pub partner : ℕ → ℕ → ℕ
partner n i = if i % 2 == 0 then i - 1 else if nat_lt i n then i + 1 else i

abbrev pub pin_at : ℕ → ℕ → ℕ → Pin
pin_at i x row = record { net = net_at (i - 1); area = area_at x (100 * row) 40 40; first = layer_at 0; last = layer_at 0 }

-- the two pins of net i of n
abbrev pub pins_of : ℕ → ℕ → List Pin
pins_of n i = pin_at i 100 i ∷ pin_at i 19860 (partner n i) ∷ []

-- the rule of both layers
abbrev pub wire : Rule
wire = record { half = pos 10; gap = pos 10 }

-- the generated board of n nets
unfoldable pub generated_board : ℕ → BoardParts
generated_board n = record {
  name = codes "gen" ++ decimal n;
  width = pos 20000;
  height = pos (100 * n + 200);
  layers = codes "top" ∷ codes "bot" ∷ [];
  classes = codes "sig" ∷ [];
  rules = wire ∷ wire ∷ [];
  gaps = pos 10 ∷ pos 10 ∷ [];
  kind_names = codes "v" ∷ [];
  kinds = record { first = layer_at 0; last = layer_at 1; charge = 50 } ∷ [];
  pads = pos 15 ∷ [];
  inners = pos 15 ∷ [];
  blocks = map block_of (range_with_len 1 n);
  keepouts = [];
  net_names = map net_name_of (range_with_len 1 n);
  net_classes = map (λ i. class_at 0) (range_with_len 1 n);
  pins = flat_map (pins_of n) (range_with_len 1 n);
}

-- what a generated text asks for: all connections, and then the violations
abbrev pub asked : List Command
asked = All ∷ Rules ∷ []

-- the generated text of n nets, of the first version
unfoldable pub generated : ℕ → List ℕ
generated n = spelled First (generated_board n) asked
