use Rattle.std.proofs.Common.{true}
use Rattle.geo_rect.specs.declared.ids.NetId.{NetId}
use Rattle.reply_text.specs.Texts.{reply_text}
use Rattle.auto_route.specs.Texts.{show_of}
use Rattle.auto_route.proofs.Telling.{nets_more}
use Rattle.auto_route.proofs.texts.push_shows.Goals as goal

pub loop-number-preserved : goal.loop-number-preserved
loop-number-preserved c =
    let b = c.args.board.now.parts in
    let lists = c.args.made.now.lists in
    let loop = c.loop-number in
    nets_more (λ (n : NetId). reply_text b true (show_of b lists n)) loop.number c.args.text.now loop.text c.push_net_shown.new.text loop.invariant c.in_ok-push_net_shown.ensures
