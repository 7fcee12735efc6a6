use Rattle.std.proofs.Common.{◌≡◌, drop, find}
use Rattle.board_reader.specs.Checks.{breaks, form_order}
use Rattle.board_reader.proofs.drafts.Draft.kind_of_form.Given as goal

abbrev pub invariant-loop-kind : goal.invariant-loop-kind
invariant-loop-kind l = find (breaks l.self l.form l.words) (drop l.kind-index form_order) ≡ find (breaks l.self l.form l.words) form_order
