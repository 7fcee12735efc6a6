use Rattle.std.proofs.Common.{List, All, subst, sym}
use Rattle.route_law.specs.declared.certs.Entry.{Entry}
use Rattle.route_law.specs.Covers.{IsCovered}
use Rattle.route_law.specs.Moves.{arrival_of}
use Rattle.strip_moves.specs.Grounds.{ground_of}
use Rattle.cert_check.specs.Fronts.{HasBoundedFront}
use Rattle.cert_check.proofs.Arriving.{moves_bounded, moves_covered, covered_moves}
use Rattle.cert_check.proofs.moves.are_moves_covered.Goals as goal

pub are_covered-requires-clause-arrivals : goal.are_covered-requires-clause-arrivals
are_covered-requires-clause-arrivals g c =
    let b = c.args.board.now in
    let P : List Entry → Type 0 = λ es. All HasBoundedFront es in
    subst P (sym c.as_slice.ensures) (moves_bounded b.parts c.args.planes.now c.args.net b.kept c.requires.planes c.requires.net (arrival_of c.args.from) c.args.number c.in_ok-moves.moves c.in_ok-moves.ensures.each)

pub returns : goal.returns
returns g c =
    let ground = ground_of c.args.board.now.parts c.args.planes.now c.args.net in
    let P : List Entry → Type 0 = λ es. All (λ (e : Entry). IsCovered c.args.targets.now c.args.cert.now (arrival_of e)) es in (
      λ t. moves_covered ground c.args.targets.now c.args.cert.now c.args.from c.args.number c.in_ok-moves.moves c.in_ok-moves.ensures.edges c.in_ok-moves.ensures.vias (subst P c.as_slice.ensures (c.are_covered.ensures.0 t)),
      λ h. c.are_covered.ensures.1 (subst P (sym c.as_slice.ensures) (covered_moves ground c.args.targets.now c.args.cert.now c.args.from c.args.number c.in_ok-moves.moves c.in_ok-moves.ensures.each h)),
    )
