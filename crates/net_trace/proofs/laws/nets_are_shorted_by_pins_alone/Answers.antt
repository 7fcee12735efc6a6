use Rattle.net_trace.proofs.Apart.{no_shorts}
use Rattle.net_trace.proofs.laws.nets_are_shorted_by_pins_alone.Goals as goal

pub returns : goal.returns
returns c = λ b lists traced board state apart report. no_shorts b lists board state apart traced report
