-- Who owns a shape: a net of the board, or no net.
use Rattle.std.specs.Prelude.{◌<◌, length, Option, Some, None, ⊤}
use Rattle.geo_rect.specs.declared.ids.NetId.{NetId}
use Rattle.board_parts.specs.declared.parts.BoardParts.{BoardParts}

-- the owner is a net of the board, or no net
abbrev pub IsOwner : BoardParts → Option NetId → Type 0
IsOwner b None = ⊤
IsOwner b (Some n) = n.0 < length b.net_names
