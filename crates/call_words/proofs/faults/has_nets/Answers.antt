use Rattle.std.proofs.Common.{List, ℕ, string_bytes, Contains, refl, sym, subst}
use Rattle.std.proofs.lemmas.Bool.{false≢true}
use Rattle.call_words.proofs.Naming.{not_all, one_more, refuted}
use Rattle.call_words.proofs.faults.has_nets.Goals as goal

pub returns-then-not-has_net : goal.returns-then-not-has_net
returns-then-not-has_net c =
    let P : List ℕ → Type 0 = Contains c.args.board.now.parts.net_names in
    refuted (not_all string_bytes c.args.names.now P c.loop-name.name-index c.name-item.result c.loop-name-test.true c.name-item.is
    (λ h. false≢true (c.if-not-has_net.ensures.1 (subst P (sym c.as_str.ensures.value) h))))

pub loop-name-preserved : goal.loop-name-preserved
loop-name-preserved c =
    let P : List ℕ → Type 0 = Contains c.args.board.now.parts.net_names in
    one_more string_bytes c.args.names.now P c.loop-name.name-index c.name-item.result c.loop-name-test.true c.name-item.is c.loop-name.invariant
    (subst P c.as_str.ensures.value (c.if-not-has_net.ensures.0 refl))
