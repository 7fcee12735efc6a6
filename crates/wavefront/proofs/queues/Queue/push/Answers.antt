use Rattle.wavefront.proofs.Pushing.{pushed, numbered_more}
use Rattle.wavefront.proofs.queues.Queue.push.Goals as goal

pub invariant_of-self-2 : goal.invariant_of-self-2
invariant_of-self-2 c = rw (c.in_ok-insert.ensures.entries) (numbered_more c.args.key c.self.inside.pushes c.args.e c.self.inside.waiting.entries c.self.invariant)

pub returns-clause-pairs : goal.returns-clause-pairs
returns-clause-pairs c = rw (c.in_ok-insert.ensures.entries, ← c.self.view_is) (pushed c.args.key c.self.inside.pushes c.args.e c.self.inside.waiting.entries c.self.invariant)
