use Rattle.gerber_out.proofs.Once.{read_once, refused_once, never_both}
use Rattle.gerber_out.proofs.laws.readings_are_one.Goals as goal

pub returns-clause-read : goal.returns-clause-read
returns-clause-read c = read_once

pub returns-clause-refused : goal.returns-clause-refused
returns-clause-refused c = refused_once

pub returns-clause-either : goal.returns-clause-either
returns-clause-either c = never_both
