use Rattle.std.proofs.Common.{subst}
use Rattle.std.proofs.lemmas.List.Elements.{All-contains}
use Rattle.route_law.specs.declared.certs.Entry.{Entry}
use Rattle.route_law.specs.Moves.{arrival_of, IsViaMove}
use Rattle.strip_moves.specs.Grounds.{ground_of}
use Rattle.route_law.proofs.Numbered.{numbered_listed}
use Rattle.cert_check.specs.Fronts.{IsBoundedEntry}
use Rattle.cert_check.proofs.Numbered.{one_numbered}
use Rattle.cert_check.proofs.origins.is_from_via.Goals as goal

pub is_via_move-requires-clause-from : goal.is_via_move-requires-clause-from
is_via_move-requires-clause-from g c =
    All-contains IsBoundedEntry c.args.entries.now c.in-Some.from c.requires.bounded (numbered_listed c.args.entries.now c.args.m c.in-Some.from c.in-Some.ensures.some)

pub returns : goal.returns
returns g c =
    let e = c.args.e in
    let ground = ground_of c.args.board.now.parts c.args.planes.now c.args.net in (
      λ t. record { entry = c.in-Some.from; earlier = c.in-Some.ensures.earlier; numbered = c.in-Some.ensures.some; holds = c.is_via_move.ensures.0 t },
      λ f.
          let P : Entry → Type 0 = λ x. IsViaMove ground c.args.k (arrival_of x) (arrival_of e) in
          c.is_via_move.ensures.1 (subst P (one_numbered c.args.entries.now c.args.m f.entry c.in-Some.from f.numbered c.in-Some.ensures.some) f.holds),
    )
