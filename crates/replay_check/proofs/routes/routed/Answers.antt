use Rattle.std.proofs.Common.{◌≡◌, ◌+◌, List, length, subst, ◌∙◌}
use Rattle.board_model.specs.Made.{conns_of}
use Rattle.route_law.specs.declared.replies.Made1.{Made1}
use Rattle.route_law.specs.Routing.{AreMadeInTurn}
use Rattle.replay_check.proofs.Listing.{not_both, some_of}
use Rattle.replay_check.proofs.Turns.{few_lack, rest_here}
use Rattle.replay_check.proofs.routes.routed.Goals as goal

pub is_rest-requires-clause-lacking : goal.is_rest-requires-clause-lacking
is_rest-requires-clause-lacking g c =
    let b = c.args.board.now.parts in
    let r = c.args.r.now in
    let told = some_of c.in_ok-after.field-0 c.in-Some.after c.in-Some.is in
    let P : List Made1 → Type 0 = λ ms. length (conns_of c.in-Some.after.made.lists r.net) ≡ length (conns_of c.args.state.made.lists r.net) + length ms in
    let count = subst P c.as_slice.ensures (told _ c.in_ok-after.ensures.count) in
    λ less. few_lack _ _ (length r.made) r.missing _ (c.if-r-lacking.false ∙ c.lacking.ensures) count less

pub returns-then-not-branch-clause-none : goal.returns-then-not-branch-clause-none
returns-then-not-branch-clause-none g c =
    let b = c.args.board.now.parts in
    let r = c.args.r.now in
    let told = some_of c.in_ok-after.field-0 c.in-Some.after c.in-Some.is in
    let P : List Made1 → Type 0 = λ ms. AreMadeInTurn b c.args.state.made.lists r.net ms c.in-Some.after.made.lists in
    let made = subst P c.as_slice.ensures (told _ c.in_ok-after.ensures.made) in
    λ new h. not_both c.in_ok-is_rest.field-0 (c.in_ok-is_rest.ensures.1 (rest_here b c.args.state.made.lists r c.in-Some.after.made.lists new made h)) c.if-not-branch.true
