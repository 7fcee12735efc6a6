use Rattle.std.proofs.Common.{◌≡◌, ◌+◌, ◌<◌, List, ℕ, length, map, drop, get_or, string_bytes, Contains, refl, ap, sym, subst, ◌∙◌, arith}
use Rattle.std.proofs.lemmas.Bool.{false≢true}
use Rattle.std.proofs.lemmas.List.{take_rest, drop-map, length-map}
use Rattle.board_model.proofs.NameLists.{apart_more}
use Rattle.call_words.proofs.Naming.{bytes_at, not_apart, refuted}
use Rattle.call_words.proofs.names.are_apart.Goals as goal

pub returns-then-has_word : goal.returns-then-has_word
returns-then-has_word c =
    let i = c.loop-i.i in
    let words = c.args.words.now in
    let names : List (List ℕ) = map string_bytes words in
    let x : List ℕ = string_bytes c.index-words-i.result in
    let inside : i < length names = omega (arith, length-map words string_bytes, c.loop-i-test.true) in
    let at : get_or names i x ≡ x = bytes_at string_bytes words i c.index-words-i.result x c.loop-i-test.true c.index-words-i.is in
    let rest = ap (map string_bytes) (take_rest words (i + 1)) ∙ sym (drop-map string_bytes (i + 1) words) in
    let found = subst (λ (ns : List (List ℕ)). Contains ns c.as_str.result.now) rest (c.if-has_word.ensures.0 refl) in
    refuted (not_apart names i x inside at (subst (Contains (drop (i + 1) names)) c.as_str.ensures.value found))

pub loop-i-preserved : goal.loop-i-preserved
loop-i-preserved c =
    let i = c.loop-i.i in
    let words = c.args.words.now in
    let names : List (List ℕ) = map string_bytes words in
    let x : List ℕ = string_bytes c.index-words-i.result in
    let inside : i < length names = omega (arith, length-map words string_bytes, c.loop-i-test.true) in
    let at : get_or names i x ≡ x = bytes_at string_bytes words i c.index-words-i.result x c.loop-i-test.true c.index-words-i.is in
    let rest = ap (map string_bytes) (take_rest words (i + 1)) ∙ sym (drop-map string_bytes (i + 1) words) in
    let none : Contains (drop (i + 1) names) x → ⊥ = λ h.
    let there = subst (Contains (drop (i + 1) names)) (sym c.as_str.ensures.value) h in
    false≢true (c.if-has_word.ensures.1 (subst (λ (ns : List (List ℕ)). Contains ns c.as_str.result.now) (sym rest) there)) in
    apart_more names i x inside (sym at) none c.loop-i.invariant
