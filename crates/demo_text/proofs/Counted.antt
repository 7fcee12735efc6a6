-- The sums of a summary are small: a leg costs at most 2^26, and a board has few nets and pins.
use Rattle.std.proofs.Common.{◌≡◌, ℕ, ◌+◌, ◌*◌, ◌-◌, ◌^◌, ◌<◌, ◌≤◌, ℤ, List, [], ◌∷◌, length, Option, Some, None, All, ap, arith}
use Rattle.std.specs.Prelude.{Bool, ◌==◌}
use Rattle.std.proofs.lemmas.Int.{ints}
use Rattle.std.proofs.lemmas.List.Elements.{All-nil, All-cons, All-get_or}
use Rattle.std.proofs.lemmas.List.Sums.{count_by-le-length, length-filter}
use Rattle.geo_rect.specs.declared.ids.KindId.{KindId}
use Rattle.geo_rect.specs.declared.ids.NetId.{NetId}
use Rattle.geo_rect.specs.declared.ids.Node.{Node}
use Rattle.geo_rect.specs.declared.ids.Spot.{Spot}
use Rattle.geo_rect.specs.Distance.{apart}
use Rattle.geo_rect.specs.Line.{between}
use Rattle.board_parts.specs.declared.commands.Command.{Command}
use Rattle.board_model.specs.declared.made.Conn.{Conn}
use Rattle.board_model.specs.declared.made.Leg.{Leg}
use Rattle.board_model.specs.declared.made.Leg.TheVariants.{Wire, Via}
use Rattle.board_parts.specs.declared.parts.BoardParts.{BoardParts}
use Rattle.board_parts.specs.declared.parts.Pin.{Pin}
use Rattle.board_model.specs.declared.shapes.Shape.{Shape}
use Rattle.board_parts.specs.Lookup.{kind_of}
use Rattle.board_model.specs.Made.{with_conn}
use Rattle.board_parts.specs.Rules.{IsBoard, IsKind}
use Rattle.board_model.specs.Shapes.{end_of}
use Rattle.board_model.specs.WellFormed.{IsCoordinate, IsCorner, IsStep as IsLegStep, AreSteps}
use Rattle.route_law.specs.declared.replies.Fail.{Fail}
use Rattle.route_law.specs.declared.replies.Made1.{Made1}
use Rattle.route_law.specs.declared.replies.Reply.{Reply}
use Rattle.route_law.specs.declared.replies.Reply.TheVariants as reply
use Rattle.route_law.specs.declared.replies.Routed.{Routed}
use Rattle.route_law.specs.Boards.{IsGroundOf}
use Rattle.route_law.specs.Connections.{cost_of_leg, cost_of_legs}
use Rattle.route_law.specs.Ground.{Ground}
use Rattle.route_law.specs.Joins.{IsConnection}
use Rattle.route_law.specs.Routing.{IsNextConnection, AreMadeInTurn, IsDoneOrStuck, IsRouted, AreRoutedFrom, conns_needed}
use Rattle.route_law.specs.Steps.{IsAnswer}
use Rattle.route_law.proofs.Joining.{walk_cost-legs}
use Rattle.demo_text.specs.Bounds.{AreCounted, HasPricedLegs, IsCounted, IsReplyTo}
use Rattle.demo_text.specs.Summary.{nets_of}

-- two coordinates are not far apart
between_small : (u v : ℤ) → IsCoordinate u → IsCoordinate v → between u v ≤ 2 ^ 25
between_small u v s t =
    let a = s.from in
    let b = s.to in
    let c = t.from in
    let d = t.to in
    omega (arith, ints)

charge_small : (b : BoardParts) (k : KindId) → IsBoard b → k.0 < length b.kinds → (kind_of b k).charge ≤ 2 ^ 26
charge_small b k board h =
    let is : IsKind (length b.layers) (kind_of b k) = All-get_or (IsKind (length b.layers)) b.kinds k.0 (record { first = record { 0 = 0 }; last = record { 0 = 0 }; charge = 0 }) h board.each_kind in
    omega (arith, is.charge)

module _ (b : BoardParts) (board : IsBoard b) where
  module _ (shapes : List Shape) (n : NetId) (g : Ground) (of : IsGroundOf b shapes n g) where
    leg_small : (v : Node) (leg : Leg) → IsCorner b v → IsLegStep b v leg → cost_of_leg g v leg ≤ 2 ^ 26
    leg_small v (Wire w) c s =
        omega (arith, between_small v.x w.x c.place.across s.end.place.across, between_small v.y w.y c.place.up s.end.place.up)
    leg_small v (Via k w) c s =
        let charge : (g.kind k).charge ≡ (kind_of b k).charge = ap (λ x. x.charge) (of.kind k (omega (arith, of.kinds, s.form.kind))) in
        omega (arith, charge, charge_small b k board s.form.kind)

    legs_small : (v : Node) (legs : List Leg) → IsCorner b v → AreSteps b v legs → cost_of_legs g v legs ≤ 2 ^ 26 * length legs
    legs_small v [] c s = omega arith
    legs_small v (leg ∷ legs) c s = omega (arith, leg_small v leg c s.0, legs_small (end_of leg) legs s.0.end s.1)

    conn_small : (sources targets : List Spot) (c : Conn) → IsConnection b g c sources targets → c.cost ≤ 2 ^ 26 * length c.legs
    conn_small sources targets c joined =
        omega (arith, joined.cost, walk_cost-legs g c.start c.legs, legs_small c.start c.legs joined.well_formed.start joined.well_formed.steps)

  made_small : (lists : List (List Conn)) (n : NetId) (m : Made1) → IsNextConnection b lists n m → HasPricedLegs m
  made_small lists n m next = conn_small _ n next.ground next.is_ground _ _ m.conn next.least.connection

  each_made_small : (n : NetId) (old new : List (List Conn)) (ms : List Made1) → AreMadeInTurn b old n ms new → All HasPricedLegs ms
  each_made_small n old new [] made = All-nil HasPricedLegs
  each_made_small n old new (m ∷ ms) made =
      All-cons HasPricedLegs m ms (made_small old n m made.0) (each_made_small n (with_conn old n m.conn) new ms made.1)

  few_needed : (n : NetId) → conns_needed b n ≤ 32768
  few_needed n =
      let of_net : Pin → Bool = λ p. p.net.0 == n.0 in
      omega (arith, length-filter of_net b.pins, count_by-le-length of_net b.pins, board.pins)

  few_made : (lists : List (List Conn)) (n : NetId) (missing made : ℕ) (f : Option Fail) → IsDoneOrStuck b lists n missing made f → made ≤ missing
  few_made lists n missing made None e = omega (arith, e)
  few_made lists n missing made (Some f) k = omega (arith, k.0)

  -- what came of a net is counted in few steps
  pub routed_counted : (old new : List (List Conn)) (r : Routed) → IsRouted b old r new → IsCounted r
  routed_counted old new r routed =
      let few = few_needed r.net in
      record {
        missing = omega (arith, routed.missing, few);
        made = omega (arith, routed.missing, few, few_made new r.net r.missing (length r.made) r.none routed.rest);
        priced = each_made_small r.net old new r.made routed.made;
      }

  each_routed_counted : (n : ℕ) (old new : List (List Conn)) (rs : List Routed) → AreRoutedFrom b n old rs new → All IsCounted rs
  each_routed_counted n old new [] routed = All-nil IsCounted
  each_routed_counted n old new (r ∷ rs) routed =
      All-cons IsCounted r rs (routed_counted old routed.1 r routed.2) (each_routed_counted (n + 1) routed.1 new rs routed.3)

  answer_counted : (old new : List (List Conn)) (r : Reply) → IsAnswer b old r new → AreCounted (nets_of r)
  answer_counted old new (reply.All rs) a = record { few = omega (arith, a.0, board.net_names.few); each = each_routed_counted 0 old new rs a.1 }
  answer_counted old new r a = record { few = omega arith; each = All-nil IsCounted }

-- what came of the nets is counted in few steps, so that its sums fit
pub reply_counted : (c : Command) (r : Reply) → IsReplyTo c r → AreCounted (nets_of r)
reply_counted c r h = answer_counted h.board h.keeps_rules h.old h.new r h.step.answer
