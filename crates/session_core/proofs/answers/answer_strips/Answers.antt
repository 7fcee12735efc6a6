use Rattle.std.proofs.Common.{refl}
use Rattle.session_core.proofs.answers.answer_strips.Goals as goal

pub returns-clause-step : goal.returns-clause-step
returns-clause-step g c =
    let lists = c.args.made.now.lists in
    let stands = (c.in_ok-planes.ensures lists c.requires.session).stands in
    record { asked = refl; answer = (c.in_ok-strips.ensures lists stands, refl) }
