use Rattle.std.proofs.lemmas.Result.{on_ok_weaker}
use Rattle.strip_moves.specs.Ways.{IsThroughDoor}
use Rattle.strip_moves.proofs.Gains.{gains_one}
use Rattle.strip_moves.proofs.Ways.{one_through}
use Rattle.strip_moves.proofs.departures.Departure.push_through.Goals as goal

pub returns : goal.returns
returns c =
    let d = c.args.self in
    on_ok_weaker c.push.result
    (λ is. gains_one d.origin c.args.moves.now c.push.new.self c.entry_through.result (IsThroughDoor d c.args.strip c.args.door) is
    c.entry_through.ensures.origin c.entry_through.ensures.through (one_through d c.args.strip c.args.door))
    c.push.ensures.ok
