use Rattle.std.proofs.Common.{List, ◌+◌, ◌++◌, ◌∙◌, ap, arith}
use Rattle.route_law.specs.declared.replies.Routed.{Routed}
use Rattle.auto_route.specs.Texts.{round_text}
use Rattle.auto_route.proofs.Telling.{rounds_more}
use Rattle.auto_route.proofs.texts.push_rounds.Goals as goal

pub loop-round-preserved : goal.loop-round-preserved
loop-round-preserved c =
    let b = c.args.board.now.parts in
    let loop = c.loop-round in
    let number = loop.number + 1 in
    let pushed = c.in_ok-push_round.ensures ∙ ap (λ (round : List Routed). loop.text ++ round_text b number round) c.as_slice.ensures in
    record {
      text = rounds_more b c.args.rounds.now loop.round-index number c.round-item.result c.args.text.now loop.text c.push_round.new.text (omega arith) c.round-item.is (omega arith) loop.invariant.text pushed;
      number = omega arith;
    }
