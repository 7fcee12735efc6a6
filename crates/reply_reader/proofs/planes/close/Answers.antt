use Rattle.std.proofs.Common.{◌≡◌, ℕ, sym, ap, ◌∙◌, subst, arith}
use Rattle.reply_reader.specs.Said.{IsOwnedAt, after_owned}
use Rattle.reply_reader.proofs.Alike.{same_owned_at}
use Rattle.reply_reader.proofs.planes.close.Goals as goal

pub returns-in_default-clause-none : goal.returns-in_default-clause-none
returns-in_default-clause-none c = λ l o q at.
    let b = c.args.board.now.parts in
    let ws = c.args.words.now in
    let first : o ≡ c.in_ok-first.first = same_owned_at b c.args.board.now.kept ws 2 o c.in_ok-first.first at.first c.in_ok-first.ensures.some in
    let place : after_owned 2 o ≡ c.after_owned-place.result = ap (after_owned 2) first ∙ sym c.after_owned-place.ensures.value in
    c.in_default.ensures.none q (subst (λ (k : ℕ). IsOwnedAt b ws k q) place at.second)

pub returns-then-len-after_owned-clause-none : goal.returns-then-len-after_owned-clause-none
returns-then-len-after_owned-clause-none c = λ l o q at.
    let b = c.args.board.now.parts in
    let ws = c.args.words.now in
    let first : o ≡ c.in_ok-first.first = same_owned_at b c.args.board.now.kept ws 2 o c.in_ok-first.first at.first c.in_ok-first.ensures.some in
    let place : after_owned 2 o ≡ c.after_owned-place.result = ap (after_owned 2) first ∙ sym c.after_owned-place.ensures.value in
    let there : IsOwnedAt b ws c.after_owned-place.result q = subst (λ (k : ℕ). IsOwnedAt b ws k q) place at.second in
    let second : q ≡ c.in-Some.second = same_owned_at b c.args.board.now.kept ws c.after_owned-place.result q c.in-Some.second there c.in-Some.ensures.some in
    let long : c.len.result ≡ c.after_owned.result =
    c.len.ensures ∙ at.long ∙ ap (λ (k : ℕ). after_owned k q) place ∙ ap (after_owned c.after_owned-place.result) second ∙ sym c.after_owned.ensures.value in
    absurd (omega (arith, long, c.if-len-after_owned.true))
