use Rattle.std.proofs.Common.{◌≡◌, ◌∷◌, ◌++◌, ◌-◌, map, arith, take}
use Rattle.std.proofs.lemmas.List.{map-append}
use Rattle.line_words.specs.Lines.{words}
use Rattle.line_words.proofs.FirstWord.{take-next}
use Rattle.line_words.proofs.words.Words.of.Goals as goal

pub loop-preserved : goal.loop-preserved
loop-preserved c =
    let before : map (λ r. r.now) c.loop.items.items ++ take (9 - c.loop.counter) (c.in-Some.word.now ∷ words c.in-Some.after.now) ≡ take 9 (words c.args.line.now)
    = rw (← c.in-Some.ensures) c.loop.invariant in
    let step = take-next 9 (map (λ r. r.now) c.loop.items.items) c.in-Some.word.now (words c.in-Some.after.now) _ c.loop.counter (omega arith) before in
    rw (c.in_ok-push.ensures.items, map-append) step
