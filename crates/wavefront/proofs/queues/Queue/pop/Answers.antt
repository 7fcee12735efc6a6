use Rattle.std.proofs.Common.{◌<◌}
use Rattle.std.proofs.lemmas.List.Elements.{All-rest}
use Rattle.wavefront.specs.PushOrder.{Numbered}
use Rattle.wavefront.proofs.Popping.{all_behind, popped}
use Rattle.wavefront.proofs.queues.Queue.pop.Goals as goal

pub invariant_of-self-2 : goal.invariant_of-self-2
invariant_of-self-2 c =
    let x : Numbered = ((c.in_ok-key.key, c.in_ok-key.field-0-0-1), c.in_ok-key.entry) in
    All-rest (λ (y : Numbered). y.0.1 < c.self.inside.pushes) x c.pop_first.new.self.entries c.self.inside.waiting.entries c.in_ok-key.ensures.removal c.self.invariant

pub returns-clause-some : goal.returns-clause-some
returns-clause-some c =
    let x : Numbered = ((c.in_ok-key.key, c.in_ok-key.field-0-0-1), c.in_ok-key.entry) in
    let rest = c.pop_first.new.self.entries in
    rw (← c.self.view_is, c.in_ok-key.ensures.removal) (popped x rest (all_behind x rest c.in_ok-key.ensures.all_above))
