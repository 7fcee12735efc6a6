use Rattle.std.proofs.Common.{arith}
use Rattle.strip_moves.specs.Grounds.{ground_of}
use Rattle.cert_check.specs.Stages.{Placed}
use Rattle.cert_check.proofs.Cases.{not_both}
use Rattle.cert_check.proofs.Numbered.{each_more, each_to_end, first_found}
use Rattle.cert_check.proofs.searches.first_misplaced.Goals as goal

pub returns-then-not-is_well_placed : goal.returns-then-not-is_well_placed
returns-then-not-is_well_placed g c =
    let entries = c.args.entries.now in
    let own = c.index-entries-n in
    first_found (Placed (ground_of c.args.board.now.parts c.args.planes.now c.args.net)) entries c.loop-n.n own.result (omega arith) own.is c.loop-n.invariant
    (λ w. not_both (c.is_well_placed.ensures.1 w) c.if-not-is_well_placed.true)

pub loop-n-preserved : goal.loop-n-preserved
loop-n-preserved g c =
    let entries = c.args.entries.now in
    let own = c.index-entries-n in
    each_more (Placed (ground_of c.args.board.now.parts c.args.planes.now c.args.net)) entries c.loop-n.n own.result (omega arith) own.is c.loop-n.invariant
    (c.is_well_placed.ensures.0 c.if-not-is_well_placed.false)

pub returns : goal.returns
returns g c =
    each_to_end (Placed (ground_of c.args.board.now.parts c.args.planes.now c.args.net)) c.args.entries.now c.loop-n.n (omega arith) c.loop-n.invariant
