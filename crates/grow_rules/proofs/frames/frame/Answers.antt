use Rattle.std.proofs.Common.{arith}
use Rattle.std.proofs.lemmas.Int.{ints}
use Rattle.grow_rules.proofs.FrameParts.{IsPart, IsLeft, IsRight, IsBelow, IsAbove, left_part, right_part, lower_part, upper_part, all_inside, any_leaves, others_fit}
use Rattle.grow_rules.proofs.frames.frame.Goals as goal

module _ (c : goal.After-of-4) where
  left : IsPart c.args.board.now.parts c.args.half (IsLeft c.args.board.now.parts c.args.half) c.of.result
  left = left_part c.args.board.now.parts c.args.half c.requires.from _ _ _ c.of.ensures _ _ _ (omega (arith, ints)) (omega (arith, ints)) (omega (arith, ints)) c.low_end.ensures c.whole-up.ensures

  right : IsPart c.args.board.now.parts c.args.half (IsRight c.args.board.now.parts c.args.half) c.of-2.result
  right = right_part c.args.board.now.parts c.args.half c.requires.from _ _ _ c.of-2.ensures _ _ _ (omega (arith, ints)) (omega (arith, ints)) (omega (arith, ints)) c.high_end.ensures c.whole-up.ensures

  below : IsPart c.args.board.now.parts c.args.half (IsBelow c.args.board.now.parts c.args.half) c.of-3.result
  below = lower_part c.args.board.now.parts c.args.half c.requires.from _ _ _ c.of-3.ensures _ _ _ (omega (arith, ints)) (omega (arith, ints)) (omega (arith, ints)) c.whole-across.ensures c.low_end-2.ensures

  above : IsPart c.args.board.now.parts c.args.half (IsAbove c.args.board.now.parts c.args.half) c.of-4.result
  above = upper_part c.args.board.now.parts c.args.half c.requires.from _ _ _ c.of-4.ensures _ _ _ (omega (arith, ints)) (omega (arith, ints)) (omega (arith, ints)) c.whole-across.ensures c.high_end-2.ensures

pub returns-clause-inside : goal.returns-clause-inside
returns-clause-inside c =
    all_inside c.args.board.now.parts c.args.half c.requires.from _ _ _ _ (left c) (right c) (below c) (above c)

pub returns-clause-leaves : goal.returns-clause-leaves
returns-clause-leaves c =
    any_leaves c.args.board.now.parts c.args.half c.requires.from _ _ _ _ (left c) (right c) (below c) (above c)

pub returns-clause-others : goal.returns-clause-others
returns-clause-others c =
    others_fit c.args.board.now.parts c.args.half c.requires.from _ _ _ _ (left c) (right c) (below c) (above c)
