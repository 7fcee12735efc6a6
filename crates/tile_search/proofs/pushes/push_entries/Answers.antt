use Rattle.std.proofs.Common.{◌<◌, length, sym, arith}
use Rattle.tile_search.proofs.Pushed.{pushed_more}
use Rattle.tile_search.proofs.pushes.push_entries.Goals as goal

pub loop-n-preserved : goal.loop-n-preserved
loop-n-preserved c =
    let entries = c.args.entries.now in
    let e = c.index-entries-n.result in
    let room : c.loop-n.n < length entries = omega arith in
    record {
      pushed = pushed_more c.args.targets.now c.args.queue.now.pairs c.loop-n.queue.pairs c.push.new.self.pairs entries c.loop-n.n c.key_of.result e room (sym c.index-entries-n.is) c.key_of.ensures c.loop-n.invariant.pushed c.in_ok-push.ensures.pairs;
      pushes = omega (arith, c.in_ok-push.ensures.pushes, c.loop-n.invariant.pushes);
    }
