-- The rules that what is made keeps.
use Rattle.std.specs.Prelude.{◌≡◌, ◌≢◌, ◌<◌, ◌≤◌, Bool, true, false, pos, List, [], ◌∷◌, length, All, Contains, ⊤}
use Rattle.geo_rect.specs.declared.ids.NetId.{NetId}
use Rattle.geo_rect.specs.declared.ids.Node.{Node}
use Rattle.geo_rect.specs.Plane.{IsTooClose, square}
use Rattle.board_model.specs.declared.made.Conn.{Conn}
use Rattle.board_model.specs.declared.made.Leg.{Leg}
use Rattle.board_model.specs.declared.made.Leg.TheVariants.{Wire, Via}
use Rattle.board_parts.specs.declared.parts.BoardParts.{BoardParts}
use Rattle.board_parts.specs.declared.parts.Keepout.{Keepout}
use Rattle.board_model.specs.declared.shapes.Shape.{Shape}
use Rattle.board_model.specs.Labels.{IsInSpan}
use Rattle.board_parts.specs.Lookup.{rule_of, pad_on, kind_of, class_of}
use Rattle.board_model.specs.Made.{conns_of}
use Rattle.board_parts.specs.Rules.{IsOnBoard}
use Rattle.board_model.specs.Segments.{segment}
use Rattle.board_model.specs.Shapes.{place_of, end_of, made_shapes, state_shapes}
use Rattle.board_parts.specs.Gaps.{gap_between}
use Rattle.board_model.specs.WellFormed.{AreWellFormed}
use Rattle.route_law.specs.Regular.{IsRegularConn}
use Rattle.route_law.specs.Routing.{conns_needed}

-- the shape keeps the outline, and the gap to each of the shapes that is another owner's on its layer
pub record KeepsRules (b : BoardParts) (shapes : List Shape) (s : Shape) : Type 0 where
  pub outline : IsOnBoard b.width b.height s.area
  pub gaps : (t : Shape) → Contains shapes t → t.layer ≡ s.layer → t.owner ≢ s.owner
      → IsTooClose s.area t.area (gap_between b s.layer s.owner t.owner) → ⊥

-- a wire from a node is not too close, for a gap of 1, to a keep-out for wires on its layer, and of a via no
-- pad is to a keep-out for vias on the pad's layer
abbrev pub LegKeepsOff : BoardParts → NetId → Node → Leg → Type 0
LegKeepsOff b n from (Wire to) =
    (k : Keepout) → Contains b.keepouts k → k.wires ≡ true → k.layer ≡ to.layer
    → IsTooClose (segment (place_of from) (place_of to) (rule_of b to.layer (class_of b n)).half) k.area (pos 1) → ⊥
LegKeepsOff b n from (Via kind to) =
    (k : Keepout) → Contains b.keepouts k → k.wires ≡ false → IsInSpan (kind_of b kind) k.layer
    → IsTooClose (square (place_of to) (pad_on b kind (class_of b n) k.layer)) k.area (pos 1) → ⊥

-- each of the legs that start in a node does so, the first from this node and each other from the end of the
-- one before
abbrev pub LegsKeepOff : BoardParts → NetId → Node → List Leg → Type 0
LegsKeepOff b n from [] = ⊤
LegsKeepOff b n from (leg ∷ legs) = LegKeepsOff b n from leg × LegsKeepOff b n (end_of leg) legs

-- a connection of a net keeps off the keep-outs
abbrev pub KeepsOff : BoardParts → NetId → Conn → Type 0
KeepsOff b n c = LegsKeepOff b n c.start c.legs

-- each shape of the connections keeps the outline and the gaps, each connection keeps off the keep-outs, and
-- no net has more connections than its pins ask for
pub record IsKept (b : BoardParts) (lists : List (List Conn)) : Type 0 where
  pub rules : (s : Shape) → Contains (made_shapes b 0 lists) s → KeepsRules b (state_shapes b lists) s
  pub keepouts : (n : NetId) → n.0 < length b.net_names → All (KeepsOff b n) (conns_of lists n)
  pub few : (n : NetId) → n.0 < length b.net_names → length (conns_of lists n) ≤ conns_needed b n

-- a state to which commands lead: a list for each net, of well formed connections whose corners have no
-- negative coordinate, and the rules are kept
pub record IsState (b : BoardParts) (lists : List (List Conn)) : Type 0 where
  pub nets : length lists ≡ length b.net_names
  pub well_formed : AreWellFormed b lists
  pub regular : All (All (IsRegularConn b)) lists
  pub kept : IsKept b lists
