use Rattle.std.proofs.Common.{◌≡◌, ℕ, ◌+◌, ◌∷◌, [], ◌++◌, length, subst, sym, length-append}
use Rattle.std.proofs.lemmas.Result.{err_from_is_err_and}
use Rattle.reply_reader.specs.Blocks.{reply_block}
use Rattle.reply_reader.specs.Parts.{counted, IsRead}
use Rattle.reply_reader.proofs.Composing.{read_next}
use Rattle.reply_reader.proofs.Exits.{reply_one, reply_some}
use Rattle.reply_reader.proofs.Whole.{refused_whole, read_whole, goes_on}
use Rattle.reply_reader.proofs.readings.read_replies.Goals as goal

pub read-requires : goal.read-requires
read-requires c = reply_some c.args.board.now.parts c.args.board.now.kept

pub returns-in_err-reply-clause-refused : goal.returns-in_err-reply-clause-refused
returns-in_err-reply-clause-refused c =
    let p = err_from_is_err_and c.from_residual.result c.from_residual.ensures.1 in
    rw (p.1, p.2) (refused_whole c.args.board.now.parts c.args.board.now.kept c.args.bytes.now c.first-place.result c.loop-place.place c.read.new.place
    c.loop-place.replies c.in_err-reply.field-0.0 c.first-place.ensures.at c.first-place.ensures.line c.loop-place-test.true c.loop-place.invariant c.in_err-reply.ensures)

pub loop-place-smaller : goal.loop-place-smaller
loop-place-smaller c =
    goes_on c.args.board.now.parts c.args.board.now.kept c.args.bytes.now c.loop-place.place c.read.new.place c.in_ok-reply.reply c.loop-place-test.true c.in_ok-reply.ensures

pub loop-place-preserved : goal.loop-place-preserved
loop-place-preserved c =
    let b = c.args.board.now.parts in
    let more : IsRead (counted (length c.loop-place.replies + 1) (reply_block b)) c.args.bytes.now c.first-place.result c.read.new.place (c.loop-place.replies ++ c.in_ok-reply.reply ∷ []) =
    read_next (reply_block b) (reply_one b c.args.board.now.kept) (length c.loop-place.replies) c.args.bytes.now c.first-place.result c.loop-place.place c.read.new.place
    c.loop-place.replies c.in_ok-reply.reply c.loop-place.invariant c.in_ok-reply.ensures in
    let long : length c.loop-place.replies + 1 ≡ length (c.loop-place.replies ++ c.in_ok-reply.reply ∷ []) =
    sym (length-append c.loop-place.replies (c.in_ok-reply.reply ∷ [])) in
    rw c.in_ok-push.ensures.ok
    (subst (λ (n : ℕ). IsRead (counted n (reply_block b)) c.args.bytes.now c.first-place.result c.read.new.place (c.loop-place.replies ++ c.in_ok-reply.reply ∷ [])) long more)

pub returns-clause-ok : goal.returns-clause-ok
returns-clause-ok c =
    read_whole c.args.board.now.parts c.args.bytes.now c.first-place.result c.loop-place.place c.loop-place.replies c.first-place.ensures.at c.loop-place-test.false c.loop-place.invariant
