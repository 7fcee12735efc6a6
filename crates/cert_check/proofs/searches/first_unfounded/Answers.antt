use Rattle.std.proofs.Common.{arith}
use Rattle.strip_moves.specs.Grounds.{ground_of}
use Rattle.cert_check.specs.Stages.{Founded}
use Rattle.cert_check.proofs.Cases.{not_both}
use Rattle.cert_check.proofs.Costs.{small_costs}
use Rattle.cert_check.proofs.Numbered.{each_more, each_to_end, first_found, read_numbered}
use Rattle.cert_check.proofs.searches.first_unfounded.Goals as goal

pub is_founded-requires-clause-here : goal.is_founded-requires-clause-here
is_founded-requires-clause-here g c =
    let own = c.index-entries-n in
    c.requires.placed c.loop-n.n own.result (read_numbered c.args.entries.now c.loop-n.n own.result (omega arith) own.is)

pub returns-then-not-is_founded-clause-first : goal.returns-then-not-is_founded-clause-first
returns-then-not-is_founded-clause-first g c =
    let entries = c.args.entries.now in
    let own = c.index-entries-n in
    first_found (Founded (ground_of c.args.board.now.parts c.args.planes.now c.args.net) c.args.sources.now entries) entries c.loop-n.n own.result (omega arith) own.is c.loop-n.invariant
    (λ w. not_both (c.is_founded.ensures.1 w) c.if-not-is_founded.true)

pub loop-n-preserved : goal.loop-n-preserved
loop-n-preserved g c =
    let entries = c.args.entries.now in
    let own = c.index-entries-n in
    each_more (Founded (ground_of c.args.board.now.parts c.args.planes.now c.args.net) c.args.sources.now entries) entries c.loop-n.n own.result (omega arith) own.is c.loop-n.invariant
    (c.is_founded.ensures.0 c.if-not-is_founded.false)

pub returns-clause-first : goal.returns-clause-first
returns-clause-first g c =
    let entries = c.args.entries.now in
    each_to_end (Founded (ground_of c.args.board.now.parts c.args.planes.now c.args.net) c.args.sources.now entries) entries c.loop-n.n (omega arith) c.loop-n.invariant

pub returns-clause-costs : goal.returns-clause-costs
returns-clause-costs g c =
    let b = c.args.board.now in
    let entries = c.args.entries.now in
    small_costs b.parts c.args.planes.now c.args.net b.kept c.requires.planes c.requires.net c.args.sources.now entries
    (record { placed = c.requires.placed; founded = returns-clause-first g c }) (omega arith)
