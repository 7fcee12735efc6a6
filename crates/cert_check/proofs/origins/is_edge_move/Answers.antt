use Rattle.std.proofs.Common.{ap}
use Rattle.board_parts.specs.Lookup.{layer_at}
use Rattle.route_law.specs.Moves.{Arrival, arrival_of}
use Rattle.cert_check.proofs.Cases.{not_both}
use Rattle.cert_check.proofs.Moved.{over_edge, edge_moved}
use Rattle.strip_moves.proofs.Bounded.{part_bounded}
use Rattle.cert_check.proofs.origins.is_edge_move.Goals as goal

pub is_moved-requires-clause-door : goal.is_moved-requires-clause-door
is_moved-requires-clause-door c = part_bounded c.in-Some.door c.args.to.strip c.in-Some.ensures.some.in_u c.requires.to.strip

pub returns : goal.returns
returns c = λ g s.
    let a : Arrival = arrival_of c.args.from in
    let b : Arrival = arrival_of c.args.to in (
      λ t. over_edge g a b c.in-Some.door (ap layer_at c.if-to-from.false) s (λ e. not_both (c.same_rect.ensures.1 e) c.if-same_rect.false) c.in-Some.ensures.some (c.is_moved.ensures.0 t),
      λ m. c.is_moved.ensures.1 (edge_moved g a b c.in-Some.door c.in-Some.ensures.some m),
    )
