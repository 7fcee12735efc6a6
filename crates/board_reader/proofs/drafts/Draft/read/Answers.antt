use Rattle.std.proofs.Common.{subst, sym}
use Rattle.board_reader.specs.Contract.{TellsReading}
use Rattle.board_reader.proofs.Lining.{lines-error}
use Rattle.board_reader.proofs.drafts.Draft.read.Goals as goal

pub returns-in-Ok : goal.returns-in-Ok
returns-in-Ok c = subst (λ r. TellsReading c.end.result r) (sym c.in-Ok.ensures.1) c.end.ensures

pub returns-in-Err : goal.returns-in-Err
returns-in-Err c = lines-error c.in-Err.error _ _ c.in-Err.ensures
