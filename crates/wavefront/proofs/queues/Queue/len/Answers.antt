use Rattle.std.proofs.Common.{sym, ◌∙◌}
use Rattle.wavefront.proofs.Order.{length_pairs}
use Rattle.wavefront.proofs.queues.Queue.len.Goals as goal

pub returns : goal.returns
returns c = rw (← c.self.view_is) (c.len.ensures.len ∙ sym (length_pairs c.self.inside.waiting.entries))
