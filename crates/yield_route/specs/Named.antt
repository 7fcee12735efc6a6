-- What is named of a board and of its state.
use Rattle.std.specs.Prelude.{◌<◌, List, length, All}
use Rattle.geo_rect.specs.declared.ids.NetId.{NetId}
use Rattle.board_parts.specs.declared.parts.BoardParts.{BoardParts}
use Rattle.board_model.specs.declared.made.Conn.{Conn}
use Rattle.route_law.specs.Regular.{IsNetOf, IsRegularRouted}
use Rattle.yield_route.specs.declared.asides.Aside.{Aside}
use Rattle.yield_route.specs.declared.told.Back.{Back}
use Rattle.yield_route.specs.declared.told.Back.TheVariants.{Kept, Out}
use Rattle.yield_route.specs.declared.told.Ripped.{Ripped}
use Rattle.yield_route.specs.declared.told.Through.{Through}

-- there is a list for the net
abbrev pub IsListed : List (List Conn) → NetId → Type 0
IsListed lists n = n.0 < length lists

-- the net of what was kept aside is one of the board's
abbrev pub IsAsideOf : BoardParts → Aside → Type 0
IsAsideOf b a = IsNetOf b a.net

-- the net of which connections were removed is one of the board's
abbrev pub IsRippedOf : BoardParts → Ripped → Type 0
IsRippedOf b r = IsNetOf b r.net

-- the net that was to be given back what it had is one of the board's
abbrev pub IsBackOf : BoardParts → Back → Type 0
IsBackOf b (Kept n k) = IsNetOf b n
IsBackOf b (Out n j) = IsNetOf b n

-- what came of routing a net through others can be written: what it names is in the board, and what came of the
-- net can be written
pub record IsRegularThrough (b : BoardParts) (t : Through) : Type 0 where
  pub ripped : All (IsRippedOf b) t.ripped
  pub routed : IsRegularRouted b t.routed
  pub back : All (IsBackOf b) t.back
