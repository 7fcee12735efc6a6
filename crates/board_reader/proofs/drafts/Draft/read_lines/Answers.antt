use Rattle.std.proofs.Common.{◌≡◌, [], Err, sym, ap, ◌∙◌, arith, subst}
use Rattle.std.proofs.lemmas.Bool.{eqb-true}
use Rattle.std.proofs.lemmas.List.{nil_from_length}
use Rattle.board_reader.specs.Contract.{TellsLines}
use Rattle.line_words.specs.Lines.{lines}
use Rattle.board_reader.specs.Reading.{reading_from}
use Rattle.board_reader.proofs.Lining.{lines-next, lines-fail}
use Rattle.board_reader.proofs.Stepping.{step-keeps}
use Rattle.board_reader.proofs.drafts.Draft.read_lines.Goals as goal

pub loop-rest-preserved : goal.loop-rest-preserved
loop-rest-preserved c =
    let d = c.loop-rest.self in
    let e = c.read_line.new.self in
    let line = c.next_line.result.0.now in
    record {
      draft = step-keeps d e line c.loop-rest.invariant.draft c.in-Ok.ensures;
      same = lines-next d e c.loop-rest.number c.loop-rest.rest.now line c.next_line.result.1.now c.next_line.ensures.lines (sym c.in-Ok.ensures) ∙ c.loop-rest.invariant.same;
      small = omega (arith, c.next_line.ensures.shorter);
    }

pub returns : goal.returns
returns c =
    let empty : c.loop-rest.rest.now ≡ [] = nil_from_length _ (eqb-true _ 0 (sym c.is_empty.ensures ∙ c.loop-rest-test.false)) in
    (c.loop-rest.invariant.draft, sym c.loop-rest.invariant.same ∙ ap (λ text. reading_from c.loop-rest.self c.loop-rest.number (lines text)) empty)

pub returns-in-Err : goal.returns-in-Err
returns-in-Err c =
    let all = reading_from c.args.self.now 1 (lines c.args.text.now) in
    subst (λ e. TellsLines (Err e) all c.read_line.new.self) (sym c.at.ensures)
    (lines-fail c.loop-rest.self c.read_line.new.self c.read_line.new.self c.in-Err.error c.loop-rest.number c.loop-rest.rest.now c.next_line.result.0.now c.next_line.result.1.now
    c.next_line.ensures.lines c.in-Err.ensures all c.loop-rest.invariant.same)
