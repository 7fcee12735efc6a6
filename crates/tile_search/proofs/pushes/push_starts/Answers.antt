use Rattle.std.proofs.Common.{◌<◌, ◌≡◌, List, All, Some, length, sym, ◌∙◌, ap, subst, arith}
use Rattle.std.specs.Prelude.{slice_get}
use Rattle.std.proofs.lemmas.Option.{slice_get-get_or}
use Rattle.route_law.specs.declared.certs.Entry.{Entry}
use Rattle.route_law.specs.declared.certs.Origin.TheVariants.{Source}
use Rattle.route_law.specs.Ground.{Ground}
use Rattle.route_law.specs.Moves.{Arrival}
use Rattle.route_law.specs.Right.{IsStart}
use Rattle.strip_moves.specs.Grounds.{ground_of}
use Rattle.strip_moves.specs.Listed.{HasArrival, IsStartFrom}
use Rattle.tile_search.proofs.Costs.{starts_room}
use Rattle.tile_search.proofs.Pushed.{starts_more}
use Rattle.tile_search.proofs.pushes.push_starts.Goals as goal

pub push_entries-requires-clause-room : goal.push_entries-requires-clause-room
push_entries-requires-clause-room g c =
    let ground : Ground = ground_of c.args.board.now.parts c.args.planes.now c.args.net in
    let n = c.loop-n.n in
    let box = c.index-sources-n.result in
    let each = subst (λ (es : List Entry). All (IsStartFrom ground box n) es) (sym c.as_slice.ensures) c.in_ok-starts.ensures.each in
    starts_room c.args.board.now.parts c.args.planes.now c.args.net c.args.board.now.kept c.requires.planes c.requires.net box n c.as_slice.result.now each

pub loop-n-preserved : goal.loop-n-preserved
loop-n-preserved g c =
    let ground : Ground = ground_of c.args.board.now.parts c.args.planes.now c.args.net in
    let sources = c.args.sources.now in
    let n = c.loop-n.n in
    let box = c.index-sources-n.result in
    let room : n < length sources = omega arith in
    let numbered : slice_get sources n ≡ Some box = slice_get-get_or sources n box room ∙ ap Some (sym c.index-sources-n.is) in
    let each = subst (λ (es : List Entry). All (IsStartFrom ground box n) es) (sym c.as_slice.ensures) c.in_ok-starts.ensures.each in
    let all = subst (λ (es : List Entry). (a : Arrival) → IsStart ground box a → HasArrival es (Source n) a) (sym c.as_slice.ensures) c.in_ok-starts.ensures.all in
    record {
      starts = starts_more ground sources c.args.targets.now n box c.loop-n.queue.pairs c.push_entries.new.queue.pairs c.as_slice.result.now numbered c.in_ok-push_entries.ensures.pairs each all c.loop-n.invariant.starts;
      pushes = omega (arith, c.in_ok-push_entries.ensures.pushes, c.loop-n.invariant.pushes);
    }
