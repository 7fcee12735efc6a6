use Rattle.std.proofs.Common.{string_bytes, refl, sym, subst}
use Rattle.std.proofs.lemmas.Bool.{false≢true}
use Rattle.call_words.specs.Names.{IsCallName}
use Rattle.call_words.proofs.Naming.{not_all, one_more, refuted}
use Rattle.call_words.proofs.names.are_call_names.Goals as goal

pub returns-then-not-is_call_name : goal.returns-then-not-is_call_name
returns-then-not-is_call_name c =
    refuted (not_all string_bytes c.args.words.now IsCallName c.loop-word.word-index c.word-item.result c.loop-word-test.true c.word-item.is
    (λ h. false≢true (c.if-not-is_call_name.ensures.1 (subst IsCallName (sym c.as_str.ensures.value) h))))

pub loop-word-preserved : goal.loop-word-preserved
loop-word-preserved c =
    one_more string_bytes c.args.words.now IsCallName c.loop-word.word-index c.word-item.result c.loop-word-test.true c.word-item.is c.loop-word.invariant
    (subst IsCallName c.as_str.ensures.value (c.if-not-is_call_name.ensures.0 refl))
