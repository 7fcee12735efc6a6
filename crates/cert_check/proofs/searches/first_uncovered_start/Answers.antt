use Rattle.std.proofs.Common.{arith}
use Rattle.std.proofs.lemmas.List.Elements.{All-contains}
use Rattle.strip_moves.specs.Grounds.{ground_of}
use Rattle.strip_moves.specs.Boxes.{IsBoardBox}
use Rattle.cert_check.specs.Stages.{Started}
use Rattle.cert_check.proofs.Cases.{not_both}
use Rattle.cert_check.proofs.Numbered.{each_more, each_to_end, first_found, read_listed}
use Rattle.cert_check.proofs.searches.first_uncovered_start.Goals as goal

pub are_starts_covered-requires-clause-source : goal.are_starts_covered-requires-clause-source
are_starts_covered-requires-clause-source g c =
    let sources = c.args.sources.now in
    let own = c.index-sources-n in
    All-contains (IsBoardBox c.args.board.now.parts) sources own.result c.requires.sources (read_listed sources c.loop-n.n own.result (omega arith) own.is)

pub returns-then-not-covered : goal.returns-then-not-covered
returns-then-not-covered g c =
    let own = c.index-sources-n in
    first_found (Started (ground_of c.args.board.now.parts c.args.planes.now c.args.net) c.args.targets.now c.args.cert.now) c.args.sources.now c.loop-n.n own.result (omega arith) own.is c.loop-n.invariant
    (λ h. not_both (c.in_ok-covered.ensures.1 h) c.if-not-covered.true)

pub loop-n-preserved : goal.loop-n-preserved
loop-n-preserved g c =
    let own = c.index-sources-n in
    each_more (Started (ground_of c.args.board.now.parts c.args.planes.now c.args.net) c.args.targets.now c.args.cert.now) c.args.sources.now c.loop-n.n own.result (omega arith) own.is c.loop-n.invariant
    (c.in_ok-covered.ensures.0 c.if-not-covered.false)

pub returns : goal.returns
returns g c =
    each_to_end (Started (ground_of c.args.board.now.parts c.args.planes.now c.args.net) c.args.targets.now c.args.cert.now) c.args.sources.now c.loop-n.n (omega arith) c.loop-n.invariant
