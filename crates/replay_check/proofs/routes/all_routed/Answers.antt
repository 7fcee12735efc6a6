use Rattle.std.proofs.Common.{sym}
use Rattle.replay_check.proofs.Listing.{some_of}
use Rattle.replay_check.proofs.Turns.{routed_more}
use Rattle.replay_check.proofs.routes.all_routed.Goals as goal

pub loop-i-preserved : goal.loop-i-preserved
loop-i-preserved g c =
    let told = some_of c.in_ok-next.field-0 c.in-Some.next c.in-Some.is in (
      told _ c.in_ok-next.ensures.state,
      routed_more c.args.board.now.parts c.args.first.made.lists c.args.blocks.now c.loop-i.i c.index-blocks-i.result c.loop-i-test.true (sym c.index-blocks-i.is) c.loop-i.state.made.lists c.loop-i.invariant.1 c.in-Some.next.made.lists
          (told _ c.in_ok-next.ensures.net) (told _ c.in_ok-next.ensures.routed),
    )
