use Rattle.std.proofs.Common.{◌↔◌}
use Rattle.std.proofs.lemmas.Result.{IfOk-weaker}
use Rattle.route_law.specs.Ground.{Ground}
use Rattle.route_law.specs.Walks.{HasNoJoiningWalk}
use Rattle.strip_moves.specs.Grounds.{ground_of}
use Rattle.strip_moves.proofs.Bounded.{the_ground}
use Rattle.tile_search.specs.Answers.{IsAnswerOf, HasRightPath, HasPathEnd, HasLeastCost, HasRightRefusal, HasEachFrontOnce, HasGoalOrder, IsNoRoute}
use Rattle.tile_search.proofs.Answering.{right_path, path_end, least_cost, right_refusal, none_exactly, each_once, goal_order}
use Rattle.tile_search.proofs.answers.search.Goals as goal

pub returns-clause-path : goal.returns-clause-path
returns-clause-path g c =
    let ground : Ground = ground_of c.args.board.now.parts c.args.planes.now c.args.net in
    let s = c.run.new.self in
    IfOk-weaker c.answer_of.result (IsAnswerOf s.table s.best) (HasRightPath ground c.args.sources.now c.args.targets.now)
    (λ f a. right_path ground c.args.sources.now c.args.targets.now s.table s.best f a c.in_ok-run.ensures.right)
    c.answer_of.ensures

pub returns-clause-path_end : goal.returns-clause-path_end
returns-clause-path_end g c =
    let s = c.run.new.self in
    IfOk-weaker c.answer_of.result (IsAnswerOf s.table s.best) (HasPathEnd c.args.targets.now)
    (λ f a. path_end c.args.targets.now s.table s.best f a c.in_ok-run.ensures.best)
    c.answer_of.ensures

pub returns-clause-path_least : goal.returns-clause-path_least
returns-clause-path_least g c =
    let ground : Ground = ground_of c.args.board.now.parts c.args.planes.now c.args.net in
    let proper = the_ground c.args.board.now.parts c.args.planes.now c.args.net c.args.board.now.kept c.requires.planes c.requires.net in
    let s = c.run.new.self in
    IfOk-weaker c.answer_of.result (IsAnswerOf s.table s.best) (HasLeastCost ground c.args.sources.now c.args.targets.now)
    (λ f a. least_cost ground c.args.sources.now c.args.targets.now s.table proper s.best f a c.in_ok-run.ensures.right)
    c.answer_of.ensures

pub returns-clause-none : goal.returns-clause-none
returns-clause-none g c =
    let ground : Ground = ground_of c.args.board.now.parts c.args.planes.now c.args.net in
    let s = c.run.new.self in
    IfOk-weaker c.answer_of.result (IsAnswerOf s.table s.best) (HasRightRefusal ground c.args.sources.now c.args.targets.now)
    (λ f a. right_refusal ground c.args.sources.now c.args.targets.now s.table s.best f a c.in_ok-run.ensures.right)
    c.answer_of.ensures

pub returns-clause-none_exactly : goal.returns-clause-none_exactly
returns-clause-none_exactly g c =
    let ground : Ground = ground_of c.args.board.now.parts c.args.planes.now c.args.net in
    let proper = the_ground c.args.board.now.parts c.args.planes.now c.args.net c.args.board.now.kept c.requires.planes c.requires.net in
    let s = c.run.new.self in
    IfOk-weaker c.answer_of.result (IsAnswerOf s.table s.best) (λ f. IsNoRoute f ↔ HasNoJoiningWalk ground c.args.sources.now c.args.targets.now)
    (λ f a. none_exactly ground c.args.sources.now c.args.targets.now s.table proper s.best f a c.in_ok-run.ensures.right)
    c.answer_of.ensures

pub returns-clause-each_once : goal.returns-clause-each_once
returns-clause-each_once g c =
    let s = c.run.new.self in
    IfOk-weaker c.answer_of.result (IsAnswerOf s.table s.best) (HasEachFrontOnce c.args.targets.now)
    (λ f a. each_once c.args.targets.now s.table s.best f a c.in_ok-run.ensures.once)
    c.answer_of.ensures

pub returns-clause-goes_to_the_goal : goal.returns-clause-goes_to_the_goal
returns-clause-goes_to_the_goal g c =
    let s = c.run.new.self in
    IfOk-weaker c.answer_of.result (IsAnswerOf s.table s.best) (HasGoalOrder c.args.targets.now)
    (λ f a. goal_order c.args.targets.now s.table s.best f a c.in_ok-run.ensures.ordered)
    c.answer_of.ensures
