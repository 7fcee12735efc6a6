use Rattle.std.proofs.Common.{ℕ, ◌+◌, ◌∙◌, ap, arith}
use Rattle.session_core.proofs.Listing.{items_more, length_pushed}
use Rattle.session_core.proofs.looks.items_of.Goals as goal

pub loop-conn-preserved : goal.loop-conn-preserved
loop-conn-preserved c =
    let loop = c.loop-conn in
    record {
      count = length_pushed loop.items _ _ c.in_ok-push.ensures.ok ∙ ap (λ (n : ℕ). n + 1) loop.invariant.count;
      listed = c.in_ok-push.ensures.ok
          ∙ items_more c.args.conns.now loop.conn-index _ c.in_ok-copy_of.field-0 c.conn-item.result loop.items (omega arith) loop.invariant.listed (omega arith) c.in_ok-copy_of.ensures c.conn-item.is;
    }
