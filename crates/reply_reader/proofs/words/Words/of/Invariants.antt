use Rattle.std.proofs.Common.{◌≡◌, ◌∷◌, ◌++◌, All, length, map}
use Rattle.reply_reader.specs.Forms.{spaced}
use Rattle.reply_reader.proofs.LineForms.{HasNot}
use Rattle.reply_reader.proofs.words.Words.of.Given as goal

-- the words so far have no space, and with the rest they are the line
abbrev pub invariant-loop : goal.invariant-loop
invariant-loop l =
    let words = map (λ r. r.now) l.items.items in
    record {
      apart : All (HasNot 32) words;
      number : length words ≡ l.counter;
      whole : spaced words ++ 32 ∷ l.rest ≡ 32 ∷ l.line;
    }
