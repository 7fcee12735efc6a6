use Rattle.io_edge.proofs.NoFaults.{no_fault-source}
use Rattle.ground_tests.proofs.streams.read_plain.Goals as goal

pub returns : goal.returns
returns c = λ e. no_fault-source c.args.source.now c.read_all.new.src c.read_all.ensures.setup c.requires.fails (c.read_all.ensures.fault e)
