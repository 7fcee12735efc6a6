use Rattle.std.proofs.Common.{refl}
use Rattle.std.proofs.lemmas.Result.{on_ok_weaker}
use Rattle.board_model.specs.Labels.{Admits}
use Rattle.route_law.specs.declared.certs.Entry.{Entry}
use Rattle.route_law.specs.declared.certs.Origin.TheVariants.{Source}
use Rattle.strip_moves.specs.Ways.{IsStartIn}
use Rattle.strip_moves.proofs.Gains.{gains_none, gains_one}
use Rattle.strip_moves.proofs.InBoxes.{start_none, one_start}
use Rattle.strip_moves.proofs.starts.push_start.Goals as goal

pub returns-in_default : goal.returns-in_default
returns-in_default c =
    gains_none (Source c.args.number) c.args.starts.now (IsStartIn c.args.source c.args.net c.args.u) (λ a. start_none c.args.source c.args.net c.args.u a c.in_default.ensures.none)

pub returns : goal.returns
returns c =
    let u = c.args.u in
    let box = c.args.source in
    let admitted : Admits u.label c.args.net = c.if-not-admits.ensures.0 refl in
    let e : Entry = record { layer = box.layer; strip = u.area; front = c.in-Some.front; cost = 0; origin = Source c.args.number } in
    on_ok_weaker c.push.result
    (λ is. gains_one (Source c.args.number) c.args.starts.now c.push.new.self e (IsStartIn box c.args.net u) is refl
    (record { admits = admitted; same_layer = refl; same_strip = refl; common = c.in-Some.ensures.some; cost = refl })
    (one_start box c.args.net u))
    c.push.ensures.ok
