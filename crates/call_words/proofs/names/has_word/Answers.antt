use Rattle.std.proofs.Common.{◌≡◌, ◌≢◌, string_bytes, sym, ◌∙◌}
use Rattle.std.proofs.lemmas.Bool.{false≢true}
use Rattle.std.proofs.lemmas.Bool.Decides.{Decides-eqb}
use Rattle.std.proofs.lemmas.Slice.Eq.{slice_eq-Decides}
use Rattle.call_words.proofs.Naming.{has_place, one_more, shown}
use Rattle.call_words.proofs.names.has_word.Goals as goal

pub returns-then-eq : goal.returns-then-eq
returns-then-eq c =
    let same : string_bytes c.word-item.result ≡ c.args.name.now = sym c.as_str.ensures.value ∙ (slice_eq-Decides Decides-eqb _ _ _ c.eq.ensures).0 c.if-eq.true in
    shown (has_place string_bytes c.args.words.now c.loop-word.word-index c.word-item.result c.args.name.now c.loop-word-test.true c.word-item.is same)

pub loop-word-preserved : goal.loop-word-preserved
loop-word-preserved c =
    let other : string_bytes c.word-item.result ≢ c.args.name.now = λ e. false≢true (sym c.if-eq.false ∙ (slice_eq-Decides Decides-eqb _ _ _ c.eq.ensures).1 (c.as_str.ensures.value ∙ e)) in
    one_more string_bytes c.args.words.now (λ v. v ≢ c.args.name.now) c.loop-word.word-index c.word-item.result c.loop-word-test.true c.word-item.is c.loop-word.invariant other
