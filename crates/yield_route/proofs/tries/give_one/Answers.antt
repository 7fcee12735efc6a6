use Rattle.std.proofs.Common.{sym, subst}
use Rattle.yield_route.specs.declared.told.Back.{Back}
use Rattle.yield_route.specs.Yielding.{IsBack}
use Rattle.yield_route.proofs.Trying.{adopted_back}
use Rattle.yield_route.proofs.tries.give_one.Goals as goal

pub returns-clause-back : goal.returns-clause-back
returns-clause-back g c =
    let b = c.args.s.parts in
    let old = c.args.s.lists in
    let n = c.args.net in
    let conns = c.args.conns.now in
    let new = c.in_ok-s.s.lists in
    let P : Back → Type 0 = λ k. IsBack b old n conns k new in
    subst P (sym c.back_of.ensures) (adopted_back b old n conns c.in_ok-s.outcome new c.in_ok-s.ensures.adopted)
