-- The replies to commands of the board can be written and read back.
use Rattle.std.proofs.Common.{ℕ, ℤ, ◌≡◌, ◌+◌, ◌<◌, ◌↔◌, inl, inr, List, [], ◌∷◌, length, get_or, map, Option, Some, None, All, Contains, sym, subst, arith}
use Rattle.std.specs.List.{flat_map}
use Rattle.std.specs.Prelude.{slice_get}
use Rattle.std.proofs.lemmas.Int.{ints}
use Rattle.std.proofs.lemmas.List.Elements.{All-nil, All-cons, All-head, All-tail, All-append, All-map, All-weaker, All-get_or, All-contains, Contains-get_or, Contains-append_cases}
use Rattle.std.proofs.lemmas.Option.{slice_get-get_or}
use Rattle.geo_rect.specs.declared.ids.ClassId.{ClassId}
use Rattle.geo_rect.specs.declared.ids.Label.{Label}
use Rattle.geo_rect.specs.declared.ids.Label.TheVariants.{Free, One, Many}
use Rattle.geo_rect.specs.declared.ids.LayerId.{LayerId}
use Rattle.geo_rect.specs.declared.ids.NetId.{NetId}
use Rattle.geo_rect.specs.declared.ids.Spot.{Spot}
use Rattle.geo_rect.specs.declared.shapes.Point.{Point}
use Rattle.geo_rect.specs.declared.shapes.Rect.{Rect}
use Rattle.geo_rect.specs.Plane.{columns, rows, HasPoint, LiesIn, lone}
use Rattle.board_parts.specs.declared.commands.Command.{Command}
use Rattle.board_model.specs.declared.made.Conn.{Conn}
use Rattle.board_parts.specs.declared.parts.Block.{Block}
use Rattle.board_parts.specs.declared.parts.BoardParts.{BoardParts}
use Rattle.board_parts.specs.declared.parts.Pin.{Pin}
use Rattle.board_model.specs.declared.shapes.Owned.{Owned}
use Rattle.board_model.specs.declared.shapes.Shape.{Shape}
use Rattle.board_model.specs.declared.shapes.Violation.{Violation}
use Rattle.board_model.specs.declared.shapes.Violation.TheVariants.{Close, Outline}
use Rattle.board_parts.specs.Commands.{IsCommandOf}
use Rattle.board_parts.specs.Owners.{IsOwner}
use Rattle.board_model.specs.Known.{IsKnown}
use Rattle.board_model.specs.Labels.{PlaneRule, wire_plane, label_among, IsTakenBy}
use Rattle.board_parts.specs.Lookup.{layers_from}
use Rattle.board_model.specs.Made.{conns_of, with_conn}
use Rattle.board_parts.specs.Rules.{IsBoard, IsOnBoard, IsBlock, IsPin}
use Rattle.board_model.specs.Shapes.{block_shape, net_shape, pin_shapes, board_shapes, made_shapes, state_shapes}
use Rattle.board_model.specs.Violations.{violations_of}
use Rattle.board_model.proofs.LabelLaws.{says_what}
use Rattle.board_model.proofs.MadeShapes.{state_known}
use Rattle.board_model.proofs.StateShapes.{All-flat_map}
use Rattle.plane_core.specs.declared.strips.Strip.{Strip}
use Rattle.plane_core.specs.Strips.{IsStrip}
use Rattle.plane_core.specs.Labels.{label_of}
use Rattle.plane_core.proofs.Alike.{strip_inside, low_number}
use Rattle.plane_core.proofs.Local.{strip_labels}
use Rattle.route_law.specs.declared.certs.Cert.{Cert}
use Rattle.route_law.specs.declared.certs.Entry.{Entry}
use Rattle.route_law.specs.declared.certs.Origin.{Origin}
use Rattle.route_law.specs.declared.certs.Origin.TheVariants as origin
use Rattle.route_law.specs.declared.replies.Fail.{Fail}
use Rattle.route_law.specs.declared.replies.Item.{Item}
use Rattle.route_law.specs.declared.replies.Made1.{Made1}
use Rattle.route_law.specs.declared.replies.Reply.{Reply}
use Rattle.route_law.specs.declared.replies.Reply.TheVariants as reply
use Rattle.route_law.specs.declared.replies.Routed.{Routed}
use Rattle.route_law.specs.Boards.{IsGroundOf}
use Rattle.route_law.specs.Ground.{Ground, IsWireStrip}
use Rattle.route_law.specs.Joins.{IsConnection}
use Rattle.route_law.specs.Kept.{IsState}
use Rattle.route_law.specs.Moves.{arrival_of}
use Rattle.route_law.specs.Regular.{IsFromZero, IsRegularConn, IsRegularOrigin, IsRegularEntry, IsRegularCert, IsRegularMade, IsRegularRest, IsRegularRouted, IsRegularItem, IsRegularOwned, IsRegularViolation, IsRegularLabel, IsRegularStrip, IsRegular}
use Rattle.route_law.specs.Right.{IsRight, IsFrom, IsWellPlaced}
use Rattle.route_law.specs.Routing.{IsNextConnection, AreMadeInTurn, IsDoneOrStuck, IsRouted, AreRoutedFrom}
use Rattle.route_law.specs.Steps.{IsStep, IsAnswer, AreWireStrips, command_of, items_from}
use Rattle.rule_check.specs.Meaning.{shape_on, IsClosePair, IsOutside}
use Rattle.rule_check.proofs.Exact.{close_exact, outside_exact}
use Rattle.rule_check.proofs.Members.{Contains-from_place}
use Rattle.step_laws.proofs.Corners.{conn_regular}

-- no coordinate on the board is negative
from_zero : (w h : ℤ) (r : Rect) → IsOnBoard w h r → IsFromZero r
from_zero w h r o = record { left = o.left; below = o.below }

corner_from_zero : (w h : ℤ) (r : Rect) → IsOnBoard w h (lone (record { x = r.x0; y = r.y0 })) → IsFromZero r
corner_from_zero w h r o =
    let a = o.left in
    let d = o.below in
    record { left = omega (arith, ints); below = omega (arith, ints) }

part_from_zero : (r s : Rect) → LiesIn r s → IsFromZero s → IsFromZero r
part_from_zero r s l z =
    let a = l.across.from in
    let d = l.up.from in
    let x = z.left in
    let y = z.below in
    record { left = omega (arith, ints); below = omega (arith, ints) }

-- the lower left point of a rectangle
abbrev corner : Rect → Point
corner r = record { x = r.x0; y = r.y0 }

has_corner : (r : Rect) → HasPoint r (corner r)
has_corner r = record { across = low_number (columns r); up = low_number (rows r) }

-- a strip of the points of the board
strip_from_zero : (w h : ℤ) (region : Rect) (f : Point → Label) (s : Strip) → ((p : Point) → HasPoint region p ↔ IsOnBoard w h (lone p)) → IsStrip region f s → IsFromZero s.area
strip_from_zero w h region f s points i =
    corner_from_zero w h s.area ((points (corner s.area)).0 (strip_inside region f s (corner s.area) i (has_corner s.area)))

module _ (b : BoardParts) (h : IsBoard b) where
  module _ (shapes : List Shape) (n : NetId) (g : Ground) (o : IsGroundOf b shapes n g) (sources targets : List Spot) (cert : Cert) (right : IsRight g sources targets cert) where
    wire_strip_from_zero : (l : LayerId) (t : Rect) → IsWireStrip g l t → IsFromZero t
    wire_strip_from_zero l t w =
        let s : Strip = record { area = t; label = w.strip.label } in
        strip_from_zero b.width b.height g.region (label_of (g.wire_strips l)) s o.points ((o.proper.wires l w.on_layer).each s w.strip.listed)

    origin_regular : (m : ℕ) (e : Entry) (x : Origin) → IsFrom g sources cert.entries m (arrival_of e) x → IsRegularOrigin b x
    origin_regular m e (origin.Source k) f = tt
    origin_regular m e (origin.Step k) f = tt
    origin_regular m e (origin.Via j k) f = omega (arith, f.holds.via_passable.of_kind, o.kinds, h.kinds)

    entry_regular : (m : ℕ) (e : Entry) → Contains cert.entries e → slice_get cert.entries m ≡ Some e → IsRegularEntry b e
    entry_regular m e listed numbered =
        let placed : IsWellPlaced g e = right.placed e listed in
        let strip : IsFromZero e.strip = wire_strip_from_zero e.layer e.strip placed.passable in
        record {
          layer = omega (arith, placed.passable.on_layer, o.layers);
          strip = strip;
          front = part_from_zero e.front e.strip placed.holds strip;
          kind = origin_regular m e e.origin (right.founded m e numbered);
        }

    cert_regular : IsRegularCert b cert
    cert_regular = λ m d l. entry_regular m (get_or cert.entries m d) (Contains-get_or cert.entries m d l) (slice_get-get_or cert.entries m d l)

  made_regular : (lists : List (List Conn)) (n : NetId) (m : Made1) → IsNextConnection b lists n m → IsRegularMade b m
  made_regular lists n m next =
      let joined : IsConnection b next.ground m.conn _ _ = next.least.connection in
      record {
        conn = conn_regular b (state_shapes b lists) n next.ground h next.is_ground m.conn joined.well_formed joined.walk.walk;
        cert = cert_regular (state_shapes b lists) n next.ground next.is_ground _ _ m.cert next.right;
      }

  each_made_regular : (n : NetId) (old new : List (List Conn)) (ms : List Made1) → AreMadeInTurn b old n ms new → All (IsRegularMade b) ms
  each_made_regular n old new [] made = All-nil (IsRegularMade b)
  each_made_regular n old new (m ∷ ms) made =
      All-cons (IsRegularMade b) m ms (made_regular old n m made.0) (each_made_regular n (with_conn old n m.conn) new ms made.1)

  rest_regular : (lists : List (List Conn)) (n : NetId) (missing made : ℕ) (f : Option Fail) → IsDoneOrStuck b lists n missing made f → IsRegularRest b missing made f
  rest_regular lists n missing made None e = e
  rest_regular lists n missing made (Some f) k =
      (k.0, cert_regular (state_shapes b lists) n k.1.ground k.1.is_ground _ _ f.cert k.1.right)

  routed_regular : (old new : List (List Conn)) (r : Routed) → IsRouted b old r new → IsRegularRouted b r
  routed_regular old new r routed = record {
    net = routed.net;
    made = each_made_regular r.net old new r.made routed.made;
    rest = rest_regular new r.net r.missing (length r.made) r.none routed.rest;
  }

  each_routed_regular : (n : ℕ) (old new : List (List Conn)) (rs : List Routed) → AreRoutedFrom b n old rs new → All (IsRegularRouted b) rs
  each_routed_regular n old new [] routed = All-nil (IsRegularRouted b)
  each_routed_regular n old new (r ∷ rs) routed =
      All-cons (IsRegularRouted b) r rs (routed_regular old routed.1 r routed.2) (each_routed_regular (n + 1) routed.1 new rs routed.3)

  items_regular : (k : ℕ) (cs : List Conn) → All (IsRegularConn b) cs → All (IsRegularItem b) (items_from k cs)
  items_regular k [] r = All-nil (IsRegularItem b)
  items_regular k (c ∷ cs) r =
      let item : Item = record { number = k; conn = c } in
      All-cons (IsRegularItem b) item (items_from (k + 1) cs) (All-head (IsRegularConn b) c cs r) (items_regular (k + 1) cs (All-tail (IsRegularConn b) c cs r))

  -- each shape of the board lies on it
  abbrev LiesOn : Shape → Type 0
  LiesOn s = IsOnBoard b.width b.height s.area

  pin_on_board : (p : Pin) → IsPin b p → All LiesOn (pin_shapes p)
  pin_on_board p i = All-map LiesOn (net_shape p.net p.area) (layers_from p.first p.last) (λ k d l. i.area)

  board_on_board : All LiesOn (board_shapes b)
  board_on_board =
      All-append LiesOn (map block_shape b.blocks) (flat_map pin_shapes b.pins)
      (All-map LiesOn block_shape b.blocks (All-weaker (IsBlock b) (λ (k : Block). LiesOn (block_shape k)) (λ k i. i.area) b.blocks h.each_block))
      (All-flat_map LiesOn pin_shapes b.pins (All-weaker (IsPin b) (λ (p : Pin). All LiesOn (pin_shapes p)) pin_on_board b.pins h.each_pin))

  module _ (lists : List (List Conn)) (state : IsState b lists) where
    known : (s : Shape) → Contains (state_shapes b lists) s → IsKnown b s
    known s m = All-contains (IsKnown b) (state_shapes b lists) s (state_known b h lists state.nets state.well_formed) m

    shape_on_board : (s : Shape) → Contains (state_shapes b lists) s → LiesOn s
    shape_on_board s m =
        elim (Contains-append_cases (board_shapes b) (made_shapes b 0 lists) s m) [
          | inl k ↦ All-contains LiesOn (board_shapes b) s board_on_board k
          | inr k ↦ (state.kept.rules s k).outline
        ]

    owned_regular : (l : LayerId) (x : Owned) → Contains (state_shapes b lists) (shape_on l x) → IsRegularOwned b x
    owned_regular l x m = record {
      owner = (known (shape_on l x) m).owner;
      area = from_zero b.width b.height x.area (shape_on_board (shape_on l x) m);
    }

    violation_regular : (v : Violation) → Contains (violations_of b (state_shapes b lists)) v → IsRegularViolation b v
    violation_regular (Close l x y) k =
        let pair : IsClosePair b (state_shapes b lists) l x y = (close_exact b (state_shapes b lists) l x y).0 k in
        let first : Contains (state_shapes b lists) (shape_on l x) = Contains-from_place (state_shapes b lists) pair.first (shape_on l x) pair.first_is in
        let second : Contains (state_shapes b lists) (shape_on l y) = Contains-from_place (state_shapes b lists) pair.second (shape_on l y) pair.second_is in
        ((known (shape_on l x) first).layer, owned_regular l x first, owned_regular l y second)
    violation_regular (Outline l x) k =
        let out : IsOutside b (state_shapes b lists) l x = (outside_exact b (state_shapes b lists) l x).0 k in
        ((known (shape_on l x) out.there).layer, owned_regular l x out.there)

    violations_regular : All (IsRegularViolation b) (violations_of b (state_shapes b lists))
    violations_regular =
        let found : List Violation = violations_of b (state_shapes b lists) in
        λ k d l. violation_regular (get_or found k d) (Contains-get_or found k d l)

    label_regular : (r : PlaneRule) (p : Point) (a : Label) → label_among b r (state_shapes b lists) p ≡ a → IsRegularLabel b a
    label_regular r p Free e = tt
    label_regular r p (One n) e =
        let taken : IsTakenBy b r (state_shapes b lists) p n = (says_what b r p (state_shapes b lists) (One n)).0 e in
        subst (λ (o : Option NetId). IsOwner b o) taken.hit.owned (known taken.hit.shape taken.hit.member).owner
    label_regular r p Many e = tt

    strip_regular : (l : LayerId) (c : ClassId) (strips : List Strip) → AreWireStrips b lists l c strips → (s : Strip) → Contains strips s → IsRegularStrip b s
    strip_regular l c strips are s m =
        let f : Point → Label = label_among b (wire_plane b l c) (state_shapes b lists) in
        let i : IsStrip are.area f s = are.strips_of_labels.each s m in
        record {
          label = label_regular (wire_plane b l c) (corner s.area) s.label (strip_labels are.area f s i (corner s.area) (has_corner s.area));
          area = strip_from_zero b.width b.height are.area f s are.points i;
        }

    strips_regular : (l : LayerId) (c : ClassId) (strips : List Strip) → AreWireStrips b lists l c strips → All (IsRegularStrip b) strips
    strips_regular l c strips are k d i = strip_regular l c strips are (get_or strips k d) (Contains-get_or strips k d i)

    conns_regular : (n : NetId) → n.0 < length b.net_names → All (IsRegularConn b) (conns_of lists n)
    conns_regular n l =
        let i : n.0 < length lists = omega (arith, l, state.nets) in
        All-get_or (All (IsRegularConn b)) lists n.0 [] i state.regular

    answer_regular : (r : Reply) (new : List (List Conn)) → IsCommandOf b (command_of r) → IsAnswer b lists r new → IsRegular b r
    answer_regular (reply.Route r) new k a = routed_regular lists new r a
    answer_regular (reply.All rs) new k a = each_routed_regular 0 lists new rs a.1
    answer_regular (reply.Rip n m) new k a = k
    answer_regular (reply.Show n m items) new k a =
        (k, a.0, subst (λ (xs : List Item). All (IsRegularItem b) xs) (sym a.1) (items_regular 1 (conns_of lists n) (conns_regular n k)))
    answer_regular (reply.Rules found) new k a =
        subst (λ (vs : List Violation). All (IsRegularViolation b) vs) (sym a.0) violations_regular
    answer_regular (reply.Strips l c strips) new k a = (k.0, k.1, strips_regular l c strips a.0)

pub step_regular : (b : BoardParts) (old new : List (List Conn)) (c : Command) (r : Reply) → IsBoard b → IsState b old → IsCommandOf b c → IsStep b old c r new → IsRegular b r
step_regular b old new c r h s k step =
    answer_regular b h old s r new (subst (λ (x : Command). IsCommandOf b x) step.asked k) step.answer
