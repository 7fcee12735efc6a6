use Rattle.std.proofs.Common.{subst}
use Rattle.route_law.specs.declared.certs.Entry.{Entry}
use Rattle.route_law.specs.Moves.{arrival_of, IsEdgeMove}
use Rattle.cert_check.proofs.Numbered.{one_numbered}
use Rattle.cert_check.proofs.origins.is_from_step.Goals as goal

pub returns : goal.returns
returns c = λ g s.
    let e = c.args.e in (
      λ t. record { entry = c.in-Some.from; earlier = c.in-Some.ensures.earlier; numbered = c.in-Some.ensures.some; holds = (c.is_edge_move.ensures g s).0 t },
      λ f.
          let P : Entry → Type 0 = λ x. IsEdgeMove g (arrival_of x) (arrival_of e) in
          (c.is_edge_move.ensures g s).1 (subst P (one_numbered c.args.entries.now c.args.m f.entry c.in-Some.from f.numbered c.in-Some.ensures.some) f.holds),
    )
