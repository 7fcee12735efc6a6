use Rattle.std.proofs.Common.{◌≡◌, ◌<◌, ◌≤◌, List, length, get_or, subst, arith}
use Rattle.std.proofs.lemmas.List.Elements.{All-contains}
use Rattle.route_law.specs.declared.certs.Entry.{Entry}
use Rattle.strip_moves.specs.Grounds.{ground_of}
use Rattle.cert_check.specs.Fronts.{HasSmallCost}
use Rattle.cert_check.specs.Stages.{Followed}
use Rattle.cert_check.proofs.Cases.{not_both}
use Rattle.cert_check.proofs.Numbered.{each_more, each_to_end, first_found, read_listed, read_numbered}
use Rattle.cert_check.proofs.searches.first_uncovered_move.Goals as goal

pub are_moves_covered-requires-clause-placed : goal.are_moves_covered-requires-clause-placed
are_moves_covered-requires-clause-placed g c =
    let own = c.index-entries-n in
    let P : List Entry → Type 0 = λ es. own.result ≡ get_or es c.loop-n.n own.result in
    let Q : List Entry → Type 0 = λ es. c.loop-n.n < length es in
    let e = c.as_slice-entries.ensures in
    c.requires.placed c.loop-n.n own.result (read_numbered c.args.cert.now.entries c.loop-n.n own.result (subst Q e c.loop-n-test.true) (subst P e own.is))

pub are_moves_covered-requires-clause-cost : goal.are_moves_covered-requires-clause-cost
are_moves_covered-requires-clause-cost g c =
    let own = c.index-entries-n in
    let P : List Entry → Type 0 = λ es. own.result ≡ get_or es c.loop-n.n own.result in
    let Q : List Entry → Type 0 = λ es. c.loop-n.n < length es in
    let e = c.as_slice-entries.ensures in
    let small : HasSmallCost own.result = All-contains HasSmallCost c.args.cert.now.entries own.result c.requires.costs (read_listed c.args.cert.now.entries c.loop-n.n own.result (subst Q e c.loop-n-test.true) (subst P e own.is)) in
    omega (arith, small)

pub returns-then-not-covered : goal.returns-then-not-covered
returns-then-not-covered g c =
    let own = c.index-entries-n in
    let P : List Entry → Type 0 = λ es. own.result ≡ get_or es c.loop-n.n own.result in
    let Q : List Entry → Type 0 = λ es. c.loop-n.n < length es in
    let e = c.as_slice-entries.ensures in
    first_found (Followed (ground_of c.args.board.now.parts c.args.planes.now c.args.net) c.args.targets.now c.args.cert.now) c.args.cert.now.entries c.loop-n.n own.result (subst Q e c.loop-n-test.true) (subst P e own.is) c.loop-n.invariant
    (λ h. not_both (c.in_ok-covered.ensures.1 h) c.if-not-covered.true)

pub loop-n-preserved : goal.loop-n-preserved
loop-n-preserved g c =
    let own = c.index-entries-n in
    let P : List Entry → Type 0 = λ es. own.result ≡ get_or es c.loop-n.n own.result in
    let Q : List Entry → Type 0 = λ es. c.loop-n.n < length es in
    let e = c.as_slice-entries.ensures in
    each_more (Followed (ground_of c.args.board.now.parts c.args.planes.now c.args.net) c.args.targets.now c.args.cert.now) c.args.cert.now.entries c.loop-n.n own.result (subst Q e c.loop-n-test.true) (subst P e own.is) c.loop-n.invariant
    (c.in_ok-covered.ensures.0 c.if-not-covered.false)

pub returns : goal.returns
returns g c =
    let Q : List Entry → Type 0 = λ es. length es ≤ c.loop-n.n in
    each_to_end (Followed (ground_of c.args.board.now.parts c.args.planes.now c.args.net) c.args.targets.now c.args.cert.now) c.args.cert.now.entries c.loop-n.n (subst Q c.as_slice-entries.ensures c.loop-n-test.false) c.loop-n.invariant
