use Rattle.std.proofs.Common.{◌+◌, List, sym, subst}
use Rattle.board_model.specs.declared.made.Conn.{Conn}
use Rattle.replay_check.proofs.Growing.{in_lists}
use Rattle.replay_check.proofs.Listing.{some_of}
use Rattle.replay_check.proofs.Turns.{AreMadeSoFar, made_more}
use Rattle.replay_check.proofs.routes.make_all.Goals as goal

pub loop-m-preserved : goal.loop-m-preserved
loop-m-preserved g c =
    let b = c.args.board.now.parts in
    let old = c.args.first.made.lists in
    let now = c.loop-m.state.made.lists in
    let inside = in_lists b now c.loop-m.state.planes c.loop-m.invariant.0 c.args.net c.requires.net in
    let told = some_of c.in_ok-next.field-0 c.in-Some.next c.in-Some.is in
    let made = told _ c.in_ok-next.ensures.made in
    let P : List (List Conn) → Type 0 = λ ls. AreMadeSoFar b old c.args.net c.args.made.now (c.loop-m.m-index + 1) ls in (
      told _ c.in_ok-next.ensures.state,
      subst P (sym made)
          (made_more b old c.args.net c.args.made.now c.loop-m.m-index c.m-item.result c.loop-m-test.true (sym c.m-item.is) now c.loop-m.invariant.1 inside (told _ c.in_ok-next.ensures.next)),
    )
