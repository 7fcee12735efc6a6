-- What an answer says, where it is that of a right certificate and a cheapest goal.
use Rattle.std.proofs.Common.{◌≡◌, ℕ, ◌↔◌, List, Option, Some, None, sym, ◌∙◌, ap, subst}
use Rattle.geo_rect.specs.declared.ids.Node.{Node}
use Rattle.geo_rect.specs.declared.ids.Spot.{Spot}
use Rattle.route_law.specs.declared.certs.Cert.{Cert}
use Rattle.route_law.specs.declared.certs.Entry.{Entry}
use Rattle.route_law.specs.Ground.{Ground, IsGround}
use Rattle.route_law.specs.Right.{IsRight}
use Rattle.route_law.specs.Walks.{HasNoJoiningWalk, IsLeastCost}
use Rattle.route_law.proofs.Attained.{bound_is_reached}
use Rattle.route_law.proofs.Law.{leaves_no_walk}
use Rattle.tile_search.specs.declared.answers.Found.{Found}
use Rattle.tile_search.specs.declared.answers.Found.TheVariants.{Path, NoRoute}
use Rattle.tile_search.specs.declared.goals.Goal.{Goal}
use Rattle.tile_search.specs.Answers.{HasRightPath, IsPathEnd, HasPathEnd, HasLeastCost, HasRightRefusal, HasEachFrontOnce, HasGoalOrder, IsNoRoute, IsPathTo, IsAnswerOf}
use Rattle.tile_search.specs.Goals.{IsGoalAmong, IsLeastGoal}
use Rattle.tile_search.specs.Keys.{IsGoalOrdered, IsOrderedToBest}
use Rattle.tile_search.specs.Once.{AreSettledOnce}
use Rattle.tile_search.specs.Underway.{cert_of}

module _ (targets : List Spot) (entries : List Entry) where
  end_of : (goal : Goal) → IsGoalAmong targets entries goal → IsPathEnd targets entries goal.cost goal.entry goal.end
  end_of goal h =
      let at = h.reached.at in
      record {
        entry = h.entry;
        numbered = h.numbered;
        of_target = record { box = h.reached.box; listed = h.reached.listed; same_layer = at.box_layer ∙ sym at.same_layer; has_point = at.in_box };
        same_layer = at.same_layer;
        in_strip = at.in_strip;
        way = at.way;
        away = at.away;
        sum = at.sum;
      }

  end_same : (goal : Goal) (cost n : ℕ) (v : Node) (cert : Cert) → IsPathTo goal (cert_of entries (Some goal)) cost n v cert → IsPathEnd targets entries goal.cost goal.entry goal.end → IsPathEnd targets cert.entries cost n v
  end_same goal cost n v cert s h =
      let P : ℕ → Type 0 = λ x. IsPathEnd targets entries x goal.entry goal.end in
      let Q : ℕ → Type 0 = λ x. IsPathEnd targets entries cost x goal.end in
      let R : Node → Type 0 = λ x. IsPathEnd targets entries cost n x in
      let S : List Entry → Type 0 = λ es. IsPathEnd targets es cost n v in
      let es : cert.entries ≡ entries = ap (λ (x : Cert). x.entries) s.same_cert in
      subst S (sym es) (subst R (sym s.same_end) (subst Q (sym s.same_entry) (subst P (sym s.same_cost) h)))

  pub path_end : (best : Option Goal) (found : Found) → IsAnswerOf entries best found → IsLeastGoal (IsGoalAmong targets entries) best → HasPathEnd targets found
  path_end None (NoRoute cert) a l = tt
  path_end None (Path cost entry end cert) a l = absurd a
  path_end (Some goal) (NoRoute cert) a l = absurd a
  path_end (Some goal) (Path cost entry end cert) a l = end_same goal cost entry end cert a (end_of goal l.there)

  pub each_once : (best : Option Goal) (found : Found) → IsAnswerOf entries best found → AreSettledOnce targets entries → HasEachFrontOnce targets found
  each_once None (NoRoute cert) a o = subst (AreSettledOnce targets) (sym (ap (λ (x : Cert). x.entries) a)) o
  each_once None (Path cost entry end cert) a o = absurd a
  each_once (Some goal) (NoRoute cert) a o = absurd a
  each_once (Some goal) (Path cost entry end cert) a o = subst (AreSettledOnce targets) (sym (ap (λ (x : Cert). x.entries) a.same_cert)) o

  order_same : (goal : Goal) (cost n : ℕ) (v : Node) (cert : Cert) → IsPathTo goal (cert_of entries (Some goal)) cost n v cert → IsGoalOrdered targets entries goal.cost → IsGoalOrdered targets cert.entries cost
  order_same goal cost n v cert s h =
      let P : ℕ → Type 0 = λ d. IsGoalOrdered targets entries d in
      let Q : List Entry → Type 0 = λ es. IsGoalOrdered targets es cost in
      let es : cert.entries ≡ entries = ap (λ (x : Cert). x.entries) s.same_cert in
      subst Q (sym es) (subst P (sym s.same_cost) h)

  pub goal_order : (best : Option Goal) (found : Found) → IsAnswerOf entries best found → IsOrderedToBest targets entries best → HasGoalOrder targets found
  goal_order None (NoRoute cert) a o = tt
  goal_order None (Path cost entry end cert) a o = absurd a
  goal_order (Some goal) (NoRoute cert) a o = absurd a
  goal_order (Some goal) (Path cost entry end cert) a o = order_same goal cost entry end cert a o

module _ (g : Ground) (sources targets : List Spot) (entries : List Entry) where
  pub right_path : (best : Option Goal) (found : Found) → IsAnswerOf entries best found → IsRight g sources targets (cert_of entries best) → HasRightPath g sources targets found
  right_path None (NoRoute cert) a r = tt
  right_path None (Path cost entry end cert) a r = absurd a
  right_path (Some goal) (NoRoute cert) a r = absurd a
  right_path (Some goal) (Path cost entry end cert) a r = record {
    right = subst (IsRight g sources targets) (sym a.same_cert) r;
    bound = ap (λ (x : Cert). x.bound) a.same_cert ∙ ap Some (sym a.same_cost);
  }

  pub right_refusal : (best : Option Goal) (found : Found) → IsAnswerOf entries best found → IsRight g sources targets (cert_of entries best) → HasRightRefusal g sources targets found
  right_refusal None (NoRoute cert) a r = record { right = subst (IsRight g sources targets) (sym a) r; bound = ap (λ (x : Cert). x.bound) a }
  right_refusal None (Path cost entry end cert) a r = absurd a
  right_refusal (Some goal) (NoRoute cert) a r = absurd a
  right_refusal (Some goal) (Path cost entry end cert) a r = tt

  module _ (ground : IsGround g) where
    least_of_goal : (goal : Goal) → IsRight g sources targets (cert_of entries (Some goal)) → IsLeastCost g sources targets goal.cost
    least_of_goal goal r = bound_is_reached g sources targets (cert_of entries (Some goal)) ground r

    pub least_cost : (best : Option Goal) (found : Found) → IsAnswerOf entries best found → IsRight g sources targets (cert_of entries best) → HasLeastCost g sources targets found
    least_cost None (NoRoute cert) a r = tt
    least_cost None (Path cost entry end cert) a r = absurd a
    least_cost (Some goal) (NoRoute cert) a r = absurd a
    least_cost (Some goal) (Path cost entry end cert) a r = subst (IsLeastCost g sources targets) (sym a.same_cost) (least_of_goal goal r)

    some_walk : (d : ℕ) → IsLeastCost g sources targets d → HasNoJoiningWalk g sources targets → ⊥
    some_walk d l n = n l.start l.steps l.joins

    pub none_exactly : (best : Option Goal) (found : Found) → IsAnswerOf entries best found → IsRight g sources targets (cert_of entries best) → IsNoRoute found ↔ HasNoJoiningWalk g sources targets
    none_exactly None (NoRoute cert) a r = (λ h. leaves_no_walk g sources targets (cert_of entries None) ground r, λ h. tt)
    none_exactly None (Path cost entry end cert) a r = absurd a
    none_exactly (Some goal) (NoRoute cert) a r = absurd a
    none_exactly (Some goal) (Path cost entry end cert) a r = (λ h. absurd h, λ h. some_walk goal.cost (least_of_goal goal r) h)
