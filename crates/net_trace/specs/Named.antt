-- A report names what is there.
use Rattle.std.specs.Prelude.{ℕ, ◌<◌, ◌≤◌, length, All}
use Rattle.geo_rect.specs.declared.ids.NetId.{NetId}
use Rattle.board_parts.specs.declared.parts.BoardParts.{BoardParts}
use Rattle.net_trace.specs.declared.traced.Group.{Group}
use Rattle.net_trace.specs.declared.traced.OpenNet.{OpenNet}
use Rattle.net_trace.specs.declared.traced.Short.{Short}
use Rattle.net_trace.specs.declared.traced.Traced.{Traced}

-- the net is one of the board's
abbrev pub IsNetThere : BoardParts → NetId → Type 0
IsNetThere b n = n.0 < length b.net_names

-- of so many pieces the group's first is one, and the group has no more than these
pub record IsGroupThere (pieces : ℕ) (g : Group) : Type 0 where
  pub first_there : g.first < pieces
  pub few : g.count ≤ pieces

-- both nets are the board's
pub record IsShortThere (b : BoardParts) (s : Short) : Type 0 where
  pub a_there : IsNetThere b s.a
  pub b_there : IsNetThere b s.b

-- each group is one of the pieces that are counted, and each net that is named is one of the board's
pub record NamesWhatIsThere (b : BoardParts) (r : Traced) : Type 0 where
  pub groups_there : All (IsGroupThere r.pieces) r.groups
  pub opens_there : All (λ (o : OpenNet). IsNetThere b o.net) r.opens
  pub shorts_there : All (IsShortThere b) r.shorts
