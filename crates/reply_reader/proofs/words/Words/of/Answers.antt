use Rattle.std.proofs.Common.{◌≡◌, ◌∷◌, [], List, ℕ, length, map, arith, length-append}
use Rattle.std.proofs.lemmas.List.{map_push}
use Rattle.std.proofs.lemmas.List.Elements.{All-append, All-nil, All-cons}
use Rattle.reply_reader.proofs.LineForms.{HasNot, words_done, words_full, cut_word}
use Rattle.reply_reader.proofs.words.Words.of.Goals as goal

pub returns-in_default : goal.returns-in_default
returns-in_default c =
    let h = c.loop.invariant in
    rw (c.in_ok-push.ensures.items, map_push) (words_done c.args.line.now c.loop.rest.now (map (λ r. r.now) c.loop.items.items) h.apart c.in_default.ensures h.whole)

pub loop-preserved : goal.loop-preserved
loop-preserved c =
    let h = c.loop.invariant in
    let ws : List (List ℕ) = map (λ r. r.now) c.loop.items.items in
    let word : List ℕ = c.in-Some.word.now in
    let said = c.in-Some.ensures in
    rw (c.in_ok-push-2.ensures.items, map_push)
    (record {
      apart = All-append (HasNot 32) ws (word ∷ []) h.apart (All-cons (HasNot 32) word [] said.0 (All-nil (HasNot 32)));
      number = let n = h.number in omega (arith, length-append ws (word ∷ []));
      whole = cut_word c.args.line.now c.loop.rest.now word c.in-Some.after.now ws h.whole said.1;
    })

pub returns : goal.returns
returns c =
    let h = c.loop.invariant in
    let n = h.number in
    let full : length (map (λ r. r.now) c.loop.items.items) ≡ 14 = omega (arith, c.loop-test.false, c.loop.auto.counter-end) in
    rw (c.in_ok-push-3.ensures.items, map_push)
    (words_full c.args.line.now c.loop.rest.now (map (λ r. r.now) c.loop.items.items) h.apart full h.whole)
