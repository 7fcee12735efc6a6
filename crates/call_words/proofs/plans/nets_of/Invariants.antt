use Rattle.std.proofs.Common.{◌≡◌, ◌<◌, length, map, take, string_bytes}
use Rattle.std.specs.Prelude.{All}
use Rattle.geo_rect.specs.declared.ids.NetId.{NetId}
use Rattle.board_parts.specs.Lookup.{net_name}
use Rattle.call_words.proofs.plans.nets_of.Given as goal

-- the nets so far are those of the names so far
abbrev pub invariant-loop-name : goal.invariant-loop-name
invariant-loop-name l = record { named : map (net_name l.board.parts) l.nets ≡ map string_bytes (take l.name-index l.names); known : All (λ (n : NetId). n.0 < length l.board.parts.net_names) l.nets }
