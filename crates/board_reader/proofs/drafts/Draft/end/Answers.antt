use Rattle.std.proofs.Common.{sym, ap, subst, inl, inr}
use Rattle.board_reader.specs.declared.forms.Stage.TheVariants.{Commands}
use Rattle.board_reader.specs.Contract.{TellsReading}
use Rattle.board_reader.specs.Forms.{is_stage}
use Rattle.board_reader.proofs.Lining.{ended, not-ended}
use Rattle.board_reader.proofs.drafts.Draft.end.Goals as goal

pub returns-in-Commands : goal.returns-in-Commands
returns-in-Commands c = subst (λ r. TellsReading c.finish.result r) (sym (ended c.args.self.now c.args.next c.in-Commands.is)) c.finish.ensures

pub returns-in-Start : goal.returns-in-Start
returns-in-Start c = not-ended c.args.self.now c.args.next (elim c.in-Start.is [ inl e ↦ ap (λ s. is_stage s Commands) e | inr e ↦ ap (λ s. is_stage s Commands) e ])
