use Rattle.std.proofs.Common.{◌≡◌, true, rules}
use Rattle.std.proofs.lemmas.List.Elements.{All-contains}
use Rattle.wavefront.specs.Waiting.{Pair}
use Rattle.tile_search.specs.Waits.{HasBoundedFront}
use Rattle.tile_search.proofs.Popped.{popped_taken, thinned_more, next_of, needless_late}
use Rattle.tile_search.proofs.fronts.next_front.Goals as goal

pub returns-then-is_late-clause-none : goal.returns-then-is_late-clause-none
returns-then-is_late-clause-none c =
    let p : Pair = record { key = c.in-Some.key; entry = c.in-Some.e } in
    needless_late c.args.table.now c.args.queue.now.pairs c.loop-key.queue.pairs c.loop-key.invariant.thinned c.args.best p c.pop.new.self.pairs c.in-Some.ensures.some (c.is_late.ensures.0 c.if-is_late.true)

pub covered-requires : goal.covered-requires
covered-requires c =
    let p : Pair = record { key = c.in-Some.key; entry = c.in-Some.e } in
    All-contains HasBoundedFront c.args.queue.now.pairs p c.requires (c.loop-key.invariant.thinned.kept p (popped_taken c.loop-key.queue.pairs p c.pop.new.self.pairs c.in-Some.ensures.some))

pub returns-then-not-covered-clause-some : goal.returns-then-not-covered-clause-some
returns-then-not-covered-clause-some c =
    next_of c.args.table.now c.args.queue.now.pairs c.loop-key.queue.pairs c.loop-key.invariant.thinned c.args.best c.in-Some.key c.in-Some.e c.pop.new.self.pairs c.in-Some.ensures.some
    (λ r. let k : c.is_late.result ≡ true = c.is_late.ensures.1 r in let m = c.if-is_late.false in cc)
    (λ r. let k : c.covered.result ≡ true = c.covered.ensures.1 r in let m = c.if-not-covered.true in cc)

pub loop-key-preserved : goal.loop-key-preserved
loop-key-preserved c =
    let p : Pair = record { key = c.in-Some.key; entry = c.in-Some.e } in
    record {
      thinned = thinned_more c.args.table.now c.args.queue.now.pairs c.loop-key.queue.pairs c.loop-key.invariant.thinned p c.pop.new.self.pairs c.in-Some.ensures.some (c.covered.ensures.0 c.if-not-covered.false);
      pushes = search rules;
    }
