use Rattle.std.proofs.Common.{List, None, sym, subst}
use Rattle.route_law.specs.declared.certs.Entry.{Entry}
use Rattle.route_law.specs.Ground.{Ground}
use Rattle.strip_moves.specs.Grounds.{ground_of}
use Rattle.strip_moves.proofs.Bounded.{boxes_bounded}
use Rattle.tile_search.specs.Underway.{IsUnderway}
use Rattle.tile_search.proofs.Steps.{underway_first}
use Rattle.tile_search.proofs.searches.Search.start.Goals as goal

pub push_starts-requires-clause-targets : goal.push_starts-requires-clause-targets
push_starts-requires-clause-targets g c = boxes_bounded c.args.board.now.parts c.args.board.now.kept c.args.targets.now c.requires.targets

pub returns : goal.returns
returns g c =
    let ground : Ground = ground_of c.args.board.now.parts c.args.planes.now c.args.net in
    let q = c.push_starts.new.queue in
    let P : List Entry → Type 0 = λ es. IsUnderway ground c.args.sources.now c.args.targets.now (record { queue = q; table = es; best = None }) in
    subst P (sym c.new.ensures) (underway_first ground c.args.sources.now c.args.targets.now q c.in_ok-push_starts.ensures.starts c.in_ok-push_starts.ensures.pushes)
