use Rattle.std.proofs.Common.{ℕ, ◌+◌, sym, subst}
use Rattle.tile_search.specs.Goals.{IsGoalIn, IsCheapest}
use Rattle.tile_search.proofs.GoalsAt.{nearest_goal}
use Rattle.tile_search.proofs.ends.goal_in.Goals as goal

pub returns : goal.returns
returns c =
    let e = c.args.e in
    let v = c.corner.result in
    let P : ℕ → Type 0 = λ way. IsCheapest (IsGoalIn c.args.common c.args.number e) (record { cost = e.cost + way; entry = c.args.number; end = v }) in
    subst P (sym c.from.ensures)
    (nearest_goal c.args.common c.clamp.result c.args.number e v c.dist-way.result c.clamp.ensures c.dist-way.ensures.exact c.corner.ensures.place c.corner.ensures.layer)
