use Rattle.walk_check.proofs.GoodCorners.{good_throughout}
use Rattle.walk_check.proofs.laws.a_connection_has_no_bad_corner.Goals as goal

pub returns : goal.returns
returns c = good_throughout
