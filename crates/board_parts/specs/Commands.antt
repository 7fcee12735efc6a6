-- What a command names of a board.
use Rattle.std.specs.Prelude.{ℕ, ◌<◌, length, ⊤}
use Rattle.board_parts.specs.declared.commands.Command.{Command}
use Rattle.board_parts.specs.declared.commands.Command.TheVariants.{Route, All, Rip, Show, Rules, Strips}
use Rattle.board_parts.specs.declared.parts.BoardParts.{BoardParts}

-- the command names nets, layers and classes of these numbers of them alone
abbrev pub IsCommandAmong : ℕ → ℕ → ℕ → Command → Type 0
IsCommandAmong layers classes nets (Route n) = n.0 < nets
IsCommandAmong layers classes nets All = ⊤
IsCommandAmong layers classes nets (Rip n) = n.0 < nets
IsCommandAmong layers classes nets (Show n) = n.0 < nets
IsCommandAmong layers classes nets Rules = ⊤
IsCommandAmong layers classes nets (Strips l c) = (l.0 < layers) × (c.0 < classes)

-- what the command names is in the board
abbrev pub IsCommandOf : BoardParts → Command → Type 0
IsCommandOf b c = IsCommandAmong (length b.layers) (length b.classes) (length b.net_names) c
