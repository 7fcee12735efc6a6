use Rattle.std.proofs.Common.{◌≡◌, ◌∙◌, true, false, sym, ap, arith}
use Rattle.std.proofs.lemmas.Bool.{eqb-true}
use Rattle.line_words.specs.Lines.{without_return}
use Rattle.board_reader.specs.Splits.{is_mark}
use Rattle.board_reader.proofs.Cutting.{IsCut, cut-later, cut-here, cut-none}
use Rattle.board_reader.proofs.splits.split_check.Goals as goal

pub loop-rest-preserved : goal.loop-rest-preserved
loop-rest-preserved c =
    let rest = c.loop-rest.rest.now in
    let piece = c.next_piece.result.0.now in
    let after = c.next_piece.result.1.now in
    let cut : IsCut rest piece after = record { falls = c.next_piece.ensures.pieces; bytes = c.next_piece.ensures.bytes } in
    let other : is_mark (without_return piece) ≡ false = ap is_mark (sym c.without_return.ensures) ∙ (sym c.is_mark.ensures ∙ c.if-is_mark.false) in
    record {
      same = cut-later c.args.bytes.now rest piece after c.loop-rest.passed cut other (omega (arith, c.loop-rest.invariant.small)) c.loop-rest.invariant.same;
      small = omega (arith, c.loop-rest.invariant.small, c.next_piece.ensures.shorter);
    }

pub returns-then-is_mark-clause-split : goal.returns-then-is_mark-clause-split
returns-then-is_mark-clause-split c =
    let rest = c.loop-rest.rest.now in
    let piece = c.next_piece.result.0.now in
    let after = c.next_piece.result.1.now in
    let cut : IsCut rest piece after = record { falls = c.next_piece.ensures.pieces; bytes = c.next_piece.ensures.bytes } in
    let mark : is_mark (without_return piece) ≡ true = ap is_mark (sym c.without_return.ensures) ∙ (sym c.is_mark.ensures ∙ c.if-is_mark.true) in
    cut-here c.args.bytes.now rest piece after c.loop-rest.passed cut mark (omega (arith, c.loop-rest.invariant.small)) c.loop-rest.invariant.same

pub returns-clause-split : goal.returns-clause-split
returns-clause-split c = cut-none c.args.bytes.now c.loop-rest.rest.now _ c.loop-rest.passed (eqb-true _ 0 (sym c.is_empty.ensures ∙ c.loop-rest-test.false)) c.loop-rest.invariant.same
