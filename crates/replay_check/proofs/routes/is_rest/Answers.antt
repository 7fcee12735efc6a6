use Rattle.std.proofs.Common.{◌<◌, ◌↔◌, Option, length, IsTrue, sym, subst}
use Rattle.std.proofs.lemmas.Result.{IfOk-weaker}
use Rattle.route_law.specs.declared.replies.Fail.{Fail}
use Rattle.route_law.specs.Routing.{IsDoneOrStuck}
use Rattle.replay_check.specs.States.{AreCounted}
use Rattle.replay_check.proofs.routes.is_rest.Goals as goal

pub has_no_route-requires-clause-lacking : goal.has_no_route-requires-clause-lacking
has_no_route-requires-clause-lacking g c =
    let r = c.args.r.now in
    let C : Option Fail → Type 0 = λ o. AreCounted r.missing (length r.made) o in
    c.requires.lacking (subst C c.in-Some.is c.requires.counted)

pub returns-in-Some : goal.returns-in-Some
returns-in-Some g c =
    let b = c.args.board.now.parts in
    let r = c.args.r.now in
    let lists = c.args.state.now.made.lists in
    let C : Option Fail → Type 0 = λ o. AreCounted r.missing (length r.made) o in
    let few : length r.made < r.missing = subst C c.in-Some.is c.requires.counted in
    IfOk-weaker c.has_no_route.result _ _
    (λ yes e.
    let P : Option Fail → Type 0 = λ o. IsTrue yes ↔ IsDoneOrStuck b lists r.net r.missing (length r.made) o in
    subst P (sym c.in-Some.is) (λ y. (few, e.0 y), λ h. e.1 h.1))
    c.has_no_route.ensures
