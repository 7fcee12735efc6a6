use Rattle.io_edge.proofs.NoFaults.{no_fault-source, no_fault-sink}
use Rattle.contour_core.proofs.in_memory.contour_in_memory.Goals as goal

pub returns-clause-refuses : goal.returns-clause-refuses
returns-clause-refuses g c = λ refused. c.contour.ensures.refuses refused
    (no_fault-source c.args.source.now c.contour.new.source c.contour.ensures.source_setup c.requires.sound_source)

pub returns-clause-complete : goal.returns-clause-complete
returns-clause-complete g c = λ accepted room. c.contour.ensures.complete accepted
    (no_fault-source c.args.source.now c.contour.new.source c.contour.ensures.source_setup c.requires.sound_source)
    (no_fault-sink c.args.out.now c.contour.new.out c.contour.ensures.sink_setup c.requires.sound_sink room)
