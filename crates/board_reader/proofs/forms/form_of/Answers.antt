use Rattle.std.proofs.Common.{◌∙◌, ap, sym}
use Rattle.std.specs.Str.{bytes_eq}
use Rattle.board_reader.specs.Forms.{spelling, all_forms}
use Rattle.board_reader.specs.declared.forms.Form.TheVariants as form
use Rattle.board_reader.proofs.Naming.{find-next}
use Rattle.board_reader.proofs.forms.form_of.Goals as goal

pub loop-form-preserved : goal.loop-form-preserved
loop-form-preserved c =
    find-next (λ f. bytes_eq (spelling f) c.args.word.now) all_forms c.loop-form.form-index form.Board c.loop-form-test.true (ap (λ w. bytes_eq w c.args.word.now) (sym c.spelling.ensures) ∙ (sym c.eq.ensures ∙ c.if-eq.false)) ∙ c.loop-form.invariant
