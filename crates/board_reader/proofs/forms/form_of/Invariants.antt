use Rattle.std.proofs.Common.{◌≡◌, drop, find}
use Rattle.std.specs.Str.{bytes_eq}
use Rattle.board_reader.specs.Forms.{form_of, spelling, all_forms}
use Rattle.board_reader.proofs.forms.form_of.Given as goal

abbrev pub invariant-loop-form : goal.invariant-loop-form
invariant-loop-form l = find (λ f. bytes_eq (spelling f) l.word) (drop l.form-index all_forms) ≡ form_of l.word
