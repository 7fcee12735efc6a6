use Rattle.std.proofs.Common.{◌≡◌, List, ℕ, map, drop, string_bytes, sym, subst, ◌∙◌}
use Rattle.call_words.specs.Requests.{IsNoRequest}
use Rattle.call_words.specs.declared.verbs.Verb.{Verb}
use Rattle.call_words.specs.Verbs.{word_of}
use Rattle.call_words.proofs.Naming.{first_word}
use Rattle.call_words.proofs.Wording.{asks_nothing_first}
use Rattle.call_words.proofs.asking.request_of.Goals as goal

pub returns-in_err-verb : goal.returns-in_err-verb
returns-in_err-verb c =
    let words = c.args.words.now in
    let first : List ℕ = string_bytes c.first-item.result in
    let other : (v : Verb) → word_of v ≡ c.as_str.result.now → ⊥ = rw c.in_err-verb.was at c.verb_of.ensures in
    let none = asks_nothing_first first (map string_bytes (drop 1 words)) (λ v e. other v (e ∙ sym c.as_str.ensures.value)) in
    rw c.from_residual.ensures (subst IsNoRequest (sym (first_word string_bytes words c.first-item.result c.in-len1-up.len_at_least c.first-item.is)) none)
