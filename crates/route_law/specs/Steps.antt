-- What a command does to a state, and what it replies.
use Rattle.std.specs.Prelude.{ℕ, ◌≡◌, ◌+◌, ◌<◌, ◌↔◌, List, [], ◌∷◌, length, take, replicate}
use Rattle.geo_rect.specs.declared.ids.ClassId.{ClassId}
use Rattle.geo_rect.specs.declared.ids.LayerId.{LayerId}
use Rattle.geo_rect.specs.declared.shapes.Point.{Point}
use Rattle.geo_rect.specs.declared.shapes.Rect.{Rect}
use Rattle.geo_rect.specs.Plane.{HasPoint, lone}
use Rattle.board_parts.specs.declared.commands.Command.{Command}
use Rattle.board_parts.specs.declared.commands.Command.TheVariants as command
use Rattle.board_model.specs.declared.made.Conn.{Conn}
use Rattle.board_parts.specs.declared.parts.BoardParts.{BoardParts}
use Rattle.board_model.specs.Labels.{wire_plane, label_among}
use Rattle.board_model.specs.Made.{conns_of, without_conns}
use Rattle.board_parts.specs.Rules.{IsOnBoard}
use Rattle.board_model.specs.Shapes.{state_shapes}
use Rattle.board_model.specs.Violations.{violations_of}
use Rattle.plane_core.specs.declared.strips.Strip.{Strip}
use Rattle.plane_core.specs.Strips.{AreStrips}
use Rattle.route_law.specs.declared.replies.Item.{Item}
use Rattle.route_law.specs.declared.replies.Reply.{Reply}
use Rattle.route_law.specs.declared.replies.Reply.TheVariants.{Route, All, Rip, Show, Rules, Strips}
use Rattle.route_law.specs.Routing.{IsRouted, AreRoutedFrom, conns_needed}

-- the command that a reply answers
abbrev pub command_of : Reply → Command
command_of (Route r) = command.Route r.net
command_of (All rs) = command.All
command_of (Rip n k) = command.Rip n
command_of (Show n m items) = command.Show n
command_of (Rules found) = command.Rules
command_of (Strips l c strips) = command.Strips l c

-- connections with their numbers, of which the first has this one
abbrev pub items_from : ℕ → List Conn → List Item
items_from k [] = []
items_from k (c ∷ cs) = record { number = k; conn = c } ∷ items_from (k + 1) cs

-- the strips of a class's wire plane on a layer: those of the points of the board, each with its label among
-- the shapes of the state
pub record AreWireStrips (b : BoardParts) (lists : List (List Conn)) (l : LayerId) (c : ClassId) (strips : List Strip) : Type 0 where
  pub area : Rect
  pub points : (p : Point) → HasPoint area p ↔ IsOnBoard b.width b.height (lone p)
  pub strips_of_labels : AreStrips area (label_among b (wire_plane b l c) (state_shapes b lists)) strips

-- what the reply tells is so in the old state, and the new state is the one that its command leaves
abbrev pub IsAnswer : BoardParts → List (List Conn) → Reply → List (List Conn) → Type 0
IsAnswer b old (Route r) new = IsRouted b old r new
IsAnswer b old (All rs) new = (length rs ≡ length b.net_names) × AreRoutedFrom b 0 old rs new
IsAnswer b old (Rip n k) new = (k ≡ length (conns_of old n)) × (new ≡ without_conns old n)
IsAnswer b old (Show n m items) new = (m ≡ conns_needed b n) × (items ≡ items_from 1 (conns_of old n)) × (new ≡ old)
IsAnswer b old (Rules found) new = (found ≡ violations_of b (state_shapes b old)) × (new ≡ old)
IsAnswer b old (Strips l c strips) new = AreWireStrips b old l c strips × (new ≡ old)

-- the command leads from the old state to the new one with this reply
pub record IsStep (b : BoardParts) (old : List (List Conn)) (c : Command) (r : Reply) (new : List (List Conn)) : Type 0 where
  pub asked : c ≡ command_of r
  pub answer : IsAnswer b old r new

-- there is one reply for each command, and the steps lead on from the old state to the new one
abbrev pub IsRunFrom : BoardParts → List (List Conn) → List Command → List Reply → List (List Conn) → Type 0
IsRunFrom b old [] [] new = new ≡ old
IsRunFrom b old [] (r ∷ rs) new = ⊥
IsRunFrom b old (c ∷ cs) [] new = ⊥
IsRunFrom b old (c ∷ cs) (r ∷ rs) new = (mid : List (List Conn)) × IsStep b old c r mid × IsRunFrom b mid cs rs new

-- no connection is made: an empty list for each net
abbrev pub nothing_made : BoardParts → List (List Conn)
nothing_made b = replicate (length b.net_names) []

-- the replies are those of a run over the commands, from the state in which nothing is made
abbrev pub IsRun : BoardParts → List Command → List Reply → Type 0
IsRun b cs rs = (new : List (List Conn)) × IsRunFrom b (nothing_made b) cs rs new

-- reply number n, from 1, is the first that is wrong, is missing, or is one too many: the replies up to it are
-- those of no run over as many of the commands, and of each fewer they are
pub record IsFirstWrong (b : BoardParts) (cs : List Command) (rs : List Reply) (n : ℕ) : Type 0 where
  pub wrong : ¬ IsRun b (take n cs) (take n rs)
  pub before : (m : ℕ) → m < n → IsRun b (take m cs) (take m rs)
