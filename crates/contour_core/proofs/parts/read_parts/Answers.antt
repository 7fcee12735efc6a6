use Rattle.std.proofs.Common.{List, ℕ, sym, subst}
use Rattle.board_reader.specs.Contract.{told_by}
use Rattle.reply_reader.specs.Readings.{IsReadingOf}
use Rattle.contour_core.specs.Checked.{EndsParts, EndsReplies}
use Rattle.contour_core.proofs.Checking.{tail, checked-parts, ends-parts}
use Rattle.contour_core.proofs.Sent.{if_err_and}
use Rattle.contour_core.proofs.parts.read_parts.Goals as goal

pub returns-clause-ok : goal.returns-clause-ok
returns-clause-ok c =
    let told = told_by c.in_ok-input.input in
    checked-parts c.args.bytes.now c.requires.short c.in-Some.split (sym c.in-Some.ensures.split) told c.in_ok-input.ensures.reading c.in_ok-replies.replies
    (subst (λ (text : List ℕ). IsReadingOf told.parts text c.in_ok-replies.replies) (tail c.in-Some.split.replies_start c.args.bytes.now) c.in_ok-replies.ensures.ok)

pub returns-in_err-replies-clause-err : goal.returns-in_err-replies-clause-err
returns-in_err-replies-clause-err c =
    let told = told_by c.in_ok-input.input in
    let bytes = c.args.bytes.now in
    let split = c.in-Some.split in
    let ending = c.in_err-replies.field-0.0 in
    let behind = subst (λ (text : List ℕ). EndsReplies told.parts text split.lines ending) (tail split.replies_start bytes) c.in_err-replies.ensures.err in
    if_err_and c.from_residual-in_err-replies.result _ _ (λ e h. subst (EndsParts bytes) (sym h)
    (ends-parts bytes c.requires.short split (sym c.in-Some.ensures.split) told c.in_ok-input.ensures.reading ending behind)) c.from_residual-in_err-replies.ensures.1
