use Rattle.std.proofs.Common.{◌∙◌}
use Rattle.std.specs.Prelude.{List}
use Rattle.board_model.specs.declared.made.Conn.{Conn}
use Rattle.route_law.specs.Steps.{items_from}
use Rattle.std.proofs.Common.{ap}
use Rattle.auto_route.proofs.Telling.{shown_regular}
use Rattle.auto_route.proofs.texts.push_net_shown.Goals as goal

pub push_show-requires-clause-items : goal.push_show-requires-clause-items
push_show-requires-clause-items c =
    let b = c.args.board.now.parts in
    let items = c.as_slice.ensures ∙ c.in_ok-items.ensures ∙ ap (λ (cs : List Conn). items_from 1 cs) c.conns.ensures in
    shown_regular b c.args.made.now.lists c.args.net c.as_slice.result.now c.requires.state c.requires.net items
