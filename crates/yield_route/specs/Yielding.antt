-- Routing a net through others: the others are ripped up, the net is routed, and each of the others is given back
-- what it had, where all of it is still walks of that net.
use Rattle.std.specs.Prelude.{ℕ, ◌≡◌, ◌+◌, List, [], ◌∷◌, ◌++◌, length, map, take, Some, slice_get, ⊤}
use Rattle.geo_rect.specs.declared.ids.NetId.{NetId}
use Rattle.board_parts.specs.declared.commands.Command.{Command}
use Rattle.board_parts.specs.declared.commands.Command.TheVariants as command
use Rattle.board_parts.specs.declared.parts.BoardParts.{BoardParts}
use Rattle.board_model.specs.declared.made.Conn.{Conn}
use Rattle.board_model.specs.Made.{conns_of}
use Rattle.route_law.specs.declared.replies.Reply.{Reply}
use Rattle.route_law.specs.declared.replies.Reply.TheVariants as reply
use Rattle.route_law.specs.Steps.{IsRunFrom}
use Rattle.session_core.specs.Adopting.{IsNextWalk, AreWalksInTurn}
use Rattle.yield_route.specs.declared.asides.Aside.{Aside}
use Rattle.yield_route.specs.declared.told.Back.{Back}
use Rattle.yield_route.specs.declared.told.Back.TheVariants.{Kept, Out}
use Rattle.yield_route.specs.declared.told.Ripped.{Ripped}
use Rattle.yield_route.specs.declared.told.Through.{Through}

-- a net with the connections that it has, kept aside
abbrev pub aside_of : List (List Conn) → NetId → Aside
aside_of lists n = record { net = n; conns = conns_of lists n }

-- a command for each of the nets, to rip it up
abbrev pub rips_of : List NetId → List Command
rips_of nets = map (λ (n : NetId). command.Rip n) nets

-- the reply that says how many connections of a net were removed
abbrev pub rip_reply : Ripped → Reply
rip_reply r = reply.Rip r.net r.count

-- these replies, in order
abbrev pub rip_replies : List Ripped → List Reply
rip_replies ripped = map rip_reply ripped

-- connection number j of these, from 1, is the first that is no walk of the net to its next pin, with its true
-- cost, in the state with those before it appended
pub record IsFirstOut (b : BoardParts) (old : List (List Conn)) (n : NetId) (conns : List Conn) (j : ℕ) : Type 0 where
  pub before : ℕ
  pub number : j ≡ before + 1
  pub conn : Conn
  pub listed : slice_get conns before ≡ Some conn
  pub mid : List (List Conn)
  pub walks : AreWalksInTurn b old n (take before conns) mid
  pub no_walk : ¬ IsNextWalk b mid n conn

-- what came of giving the net these connections back: they are walks one after another, and all are appended; or
-- the first that is none is named, and the state stays
abbrev pub IsBack : BoardParts → List (List Conn) → NetId → List Conn → Back → List (List Conn) → Type 0
IsBack b old n conns (Kept m k) new = (m ≡ n) × (k ≡ length conns) × AreWalksInTurn b old n conns new
IsBack b old n conns (Out m j) new = (m ≡ n) × IsFirstOut b old n conns j × (new ≡ old)

-- each of the nets in order was given back the connections that were kept aside
abbrev pub AreBack : BoardParts → List (List Conn) → List Aside → List Back → List (List Conn) → Type 0
AreBack b old [] [] new = new ≡ old
AreBack b old [] (k ∷ ks) new = ⊥
AreBack b old (a ∷ more) [] new = ⊥
AreBack b old (a ∷ more) (k ∷ ks) new = (mid : List (List Conn)) × IsBack b old a.net a.conns k mid × AreBack b mid more ks new

-- the net was routed through the others: by steps each of the others in order was ripped up and then the net was
-- routed, and each of the others in order was given back what it had in the old state
pub record IsThroughRun (b : BoardParts) (old : List (List Conn)) (n : NetId) (others : List NetId) (t : Through) (new : List (List Conn)) : Type 0 where
  pub routed_state : List (List Conn)
  pub steps : IsRunFrom b old (rips_of others ++ command.Route n ∷ []) (rip_replies t.ripped ++ reply.Route t.routed ∷ []) routed_state
  pub given_back : AreBack b routed_state (map (aside_of old) others) t.back new

-- the reply is the one to `rip`
abbrev pub IsRipReply : Reply → Type 0
IsRipReply (reply.Route r) = ⊥
IsRipReply (reply.All rs) = ⊥
IsRipReply (reply.Rip n k) = ⊤
IsRipReply (reply.Show n m items) = ⊥
IsRipReply (reply.Rules found) = ⊥
IsRipReply (reply.Strips l c strips) = ⊥

-- the reply is the one to `route`
abbrev pub IsRouteReply : Reply → Type 0
IsRouteReply (reply.Route r) = ⊤
IsRouteReply (reply.All rs) = ⊥
IsRouteReply (reply.Rip n k) = ⊥
IsRouteReply (reply.Show n m items) = ⊥
IsRouteReply (reply.Rules found) = ⊥
IsRouteReply (reply.Strips l c strips) = ⊥
