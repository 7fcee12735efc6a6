use Rattle.std.proofs.Common.{sym, ◌∙◌, arith}
use Rattle.session_core.specs.Attempts.{IsOneMore}
use Rattle.session_core.proofs.Turning.{turn_made, made_on, number_on, count_on, net_listed}
use Rattle.session_core.proofs.routes.route_net.Goals as goal

pub loop-number-preserved : goal.loop-number-preserved
loop-number-preserved g c =
    let b = c.args.board.now.parts in
    let n = c.args.net in
    let loop = c.loop-number in
    let mid = loop.made.lists in
    let new = c.make_next.new.made.lists in
    let after = c.make_next.new.list in
    let one : IsOneMore b n mid loop.list new after = turn_made b n mid loop.list c.in_ok-after.field-0.none new after (sym c.is_some.ensures ∙ c.if-is_some.false) c.in_ok-after.ensures.turn in
    let number = number_on b n mid loop.list new after one (net_listed b mid n loop.planes loop.invariant.sitting c.requires.net) in
    let count = count_on b n mid loop.list new after one in
    record {
      turns = made_on b n mid loop.list new after one c.args.made.now.lists loop.invariant.turns;
      sitting = c.in_ok-after.ensures.sitting;
      next = omega arith;
      count = omega arith;
    }
