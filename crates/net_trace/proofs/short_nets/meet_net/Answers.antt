use Rattle.std.proofs.Common.{◌+◌, true, length, set, subst, refl, arith}
use Rattle.std.proofs.lemmas.Bool.{false≢true}
use Rattle.std.proofs.lemmas.Option.{slice_get_read}
use Rattle.net_trace.specs.declared.copper.Piece.{Piece}
use Rattle.net_trace.specs.Listing.{IsListed, AreMet}
use Rattle.net_trace.proofs.Shorted.{met_next, met_skip}
use Rattle.net_trace.proofs.short_nets.meet_net.Goals as goal

pub returns-then-has_number : goal.returns-then-has_number
returns-then-has_number c =
    let pieces = c.args.pieces.now in
    let numbers = c.args.numbers.now in
    let held = c.args.held.now in
    let n = c.args.number in
    let p = c.index-pieces-number.result in
    let is = c.index-pieces-number.is in
    let known = c.requires.within.known_net n p (slice_get_read pieces (length pieces) n p refl c.requires.number is) in
    subst (λ (x : Piece). AreMet (n + 1) pieces (IsListed numbers) held c.args.nets (set c.args.met.now.items x.net.0 true)) is
    (met_next pieces numbers held c.args.nets n p c.requires.number is (omega (arith, c.requires.number, c.requires.within.each)) (c.if-has_number.ensures.0 refl) c.args.met.now.items known c.requires.met)

pub returns-else-has_number : goal.returns-else-has_number
returns-else-has_number c =
    met_skip c.args.pieces.now c.args.numbers.now c.args.held.now c.args.nets c.args.number c.args.met.now.items (λ h. false≢true (c.if-has_number.ensures.1 h)) c.requires.met
