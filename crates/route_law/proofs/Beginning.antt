-- Where nothing is made, the rules are kept.
use Rattle.std.proofs.Common.{◌≡◌, ◌<◌, ◌≤◌, List, [], length, Contains, All, sym, subst, refl, replicate, arith}
use Rattle.std.proofs.lemmas.List.{length-replicate, get_or-replicate}
use Rattle.std.proofs.lemmas.List.Elements.{All-nil, All-replicate}
use Rattle.geo_rect.specs.declared.ids.NetId.{NetId}
use Rattle.board_model.specs.declared.made.Conn.{Conn}
use Rattle.board_parts.specs.declared.parts.BoardParts.{BoardParts}
use Rattle.board_model.specs.declared.shapes.Shape.{Shape}
use Rattle.board_model.specs.Made.{conns_of}
use Rattle.board_model.specs.Shapes.{made_shapes, state_shapes}
use Rattle.board_model.specs.WellFormed.{IsWellFormed, AreWellFormed}
use Rattle.board_model.proofs.StateShapes.{none_made}
use Rattle.board_model.proofs.WellFormed.{none_well_formed}
use Rattle.route_law.specs.Kept.{KeepsRules, KeepsOff, IsKept, IsState}
use Rattle.route_law.specs.Regular.{IsRegularConn}
use Rattle.route_law.specs.Routing.{conns_needed}
use Rattle.route_law.specs.Steps.{nothing_made}

no_conns : (b : BoardParts) → All (λ (conns : List Conn). conns ≡ []) (nothing_made b)
no_conns b = All-replicate (λ (conns : List Conn). conns ≡ []) (length b.net_names) [] refl

nothing-kept : (b : BoardParts) → IsKept b (nothing_made b)
nothing-kept b = record {
  rules = λ s k. absurd (omega (arith, (subst (λ (shapes : List Shape). Contains shapes s) (none_made b 0 (nothing_made b) (no_conns b)) k).1));
  keepouts = λ n l. subst (All (KeepsOff b n)) (sym (get_or-replicate (length b.net_names) n.0 [] [] l)) (All-nil (KeepsOff b n));
  few = λ n l. subst (λ (conns : List Conn). length conns ≤ conns_needed b n) (sym (get_or-replicate (length b.net_names) n.0 [] [] l)) (omega arith);
}

pub nothing-state : (b : BoardParts) → IsState b (nothing_made b)
nothing-state b = record {
  nets = length-replicate (length b.net_names) [];
  well_formed = none_well_formed b (nothing_made b) (no_conns b);
  regular = All-replicate (All (IsRegularConn b)) (length b.net_names) [] (All-nil (IsRegularConn b));
  kept = nothing-kept b;
}
