use Rattle.std.proofs.Common.{◌+◌, Contains, drop, subst, sym, rules, arith}
use Rattle.std.proofs.lemmas.List.{take_rest}
use Rattle.board_model.proofs.NameLists.{apart_more}
use Rattle.board_model.proofs.names.are_apart.Goals as goal

pub loop-i-preserved : goal.loop-i-preserved
loop-i-preserved c =
    let i = c.loop-i.i in
    let names = c.args.names.now in
    let later : Contains (drop (i + 1) names) c.as_str.result.now → ⊥ = λ w. search (rules, c.has_name.ensures.1 (subst (λ ns. Contains ns c.as_str.result.now) (sym (take_rest names (i + 1))) w)) in
    let no : Contains (drop (i + 1) names) c.index-names-i.result → ⊥ = λ w. later (subst (Contains (drop (i + 1) names)) (sym c.as_str.ensures) w) in
    apart_more names i c.index-names-i.result (omega arith) c.index-names-i.is no c.loop-i.invariant
