use Rattle.std.proofs.Common.{length, sym, ap, ◌∙◌}
use Rattle.std.proofs.lemmas.List.{nil_from_length}
use Rattle.wavefront.specs.PushOrder.{pairs_of}
use Rattle.wavefront.proofs.Order.{length_pairs}
use Rattle.wavefront.proofs.queues.Queue.is_empty.Goals as goal

pub returns : goal.returns
returns c =
    let xs = c.self.inside.waiting.entries in
    rw (← c.self.view_is) (
      λ t. nil_from_length (pairs_of xs) (length_pairs xs ∙ c.is_empty.ensures.0 t),
      λ e. c.is_empty.ensures.1 (sym (length_pairs xs) ∙ ap length e),
    )
