use Rattle.plane_core.proofs.Listed.{listed_strip}
use Rattle.plane_core.proofs.laws.each_strip_is_listed.Goals as goal

pub returns : goal.returns
returns c = listed_strip
