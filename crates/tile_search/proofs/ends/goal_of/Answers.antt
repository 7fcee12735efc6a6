use Rattle.std.proofs.Common.{◌+◌, Option, List, take, subst, sym, arith}
use Rattle.std.proofs.lemmas.List.{take_all}
use Rattle.geo_rect.specs.declared.ids.Spot.{Spot}
use Rattle.plane_core.proofs.Members.{has_none}
use Rattle.tile_search.specs.declared.goals.Goal.{Goal}
use Rattle.tile_search.specs.Goals.{IsLeastGoal, IsGoalAt, IsGoalOf}
use Rattle.tile_search.proofs.Cheapest.{least_of_either}
use Rattle.tile_search.proofs.GoalsAt.{goals_more}
use Rattle.tile_search.proofs.ends.goal_of.Goals as goal

pub loop-target-init : goal.loop-target-init
loop-target-init c = λ x h. has_none h.box h.listed

pub loop-target-preserved : goal.loop-target-preserved
loop-target-preserved c =
    let targets = c.args.targets.now in
    let i = c.loop-target.target-index in
    let x = c.target-item.result in
    let n = c.args.number in
    let e = c.args.e in
    let P : Option Goal → Type 0 = λ o. IsLeastGoal (IsGoalOf (take (i + 1) targets) n e) o in
    subst P (sym c.cheaper-least.ensures)
    (least_of_either (IsGoalOf (take i targets) n e) (IsGoalAt x n e) (IsGoalOf (take (i + 1) targets) n e) (goals_more targets i x n e (omega arith) c.target-item.is) c.loop-target.least c.goal_at.result c.loop-target.invariant c.goal_at.ensures)

pub returns : goal.returns
returns c =
    let P : List Spot → Type 0 = λ targets. IsLeastGoal (IsGoalOf targets c.args.number c.args.e) c.loop-target.least in
    subst P (take_all c.loop-target.target-index c.args.targets.now (omega arith)) c.loop-target.invariant
