use Rattle.std.proofs.Common.{◌≡◌, true, Some, None, Ok, sym, ap, ◌∙◌}
use Rattle.board_reader.specs.Drafts.{after_form}
use Rattle.line_words.specs.Lines.{counts}
use Rattle.board_reader.proofs.Stepping.{line-kind, line-form, passing-words, skipped, refused, passed}
use Rattle.board_reader.proofs.drafts.Draft.read_line.Goals as goal
use Rattle.board_reader.proofs.drafts.Draft.read_line.Goals.{in-Some-form_of+in_ok-add, in_default-form_of}

pub returns-then-not-counts : goal.returns-then-not-counts
returns-then-not-counts c = skipped c.args.self.now c.args.line.now (sym c.counts.ensures ∙ c.if-not-counts.true)

pub returns-in-Some : goal.returns-in-Some
returns-in-Some c =
    let d = c.args.self.now in
    let line = c.args.line.now in
    refused d line c.in-Some.kind (sym c.counts.ensures ∙ c.if-not-counts.false) (line-kind d line _ _ c.in_ok-words.ensures c.in-Some.ensures)

pub add-requires-clause-words : goal.add-requires-clause-words
add-requires-clause-words c =
    (passing-words c.args.self.now c.args.line.now _ _ _ c.in_ok-words.ensures c.in_default.ensures c.get.ensures c.in-Some-form_of.ensures).good

pub add-requires-clause-passes : goal.add-requires-clause-passes
add-requires-clause-passes c =
    (passing-words c.args.self.now c.args.line.now _ _ _ c.in_ok-words.ensures c.in_default.ensures c.get.ensures c.in-Some-form_of.ensures).breaks_none

pub returns : goal.returns
returns c =
    let d = c.args.self.now in
    let line = c.args.line.now in
    let some : counts line ≡ true = sym c.counts.ensures ∙ c.if-not-counts.false in
    let none = line-kind d line _ _ c.in_ok-words.ensures c.in_default.ensures in
    elim c.match-form_of.branch [
      | in-Some-form_of+in_ok-add w ↦
          let f = w.in-Some-form_of.form in
          let p = passing-words d line _ _ f c.in_ok-words.ensures c.in_default.ensures c.get.ensures w.in-Some-form_of.ensures in
          passed d line (Some f) some none (line-form line _ _ _ c.in_ok-words.ensures c.get.ensures w.in-Some-form_of.ensures)
          ∙ (ap (λ ws. Ok (after_form d f ws)) (sym p.whole) ∙ ap (λ e. Ok e) (sym (w.self-is ∙ w.in_ok-add.ensures)))
      | in_default-form_of w ↦
          passed d line None some none (line-form line _ _ _ c.in_ok-words.ensures c.get.ensures w.in_default-form_of.ensures)
          ∙ ap (λ e. Ok e) (sym w.self-is)
    ]
