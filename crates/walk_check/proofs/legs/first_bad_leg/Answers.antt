use Rattle.std.proofs.Common.{ℕ, ◌≡◌, ◌+◌, ◌<◌, List, true, length, ap, sym, ◌∙◌, subst, arith}
use Rattle.board_model.specs.declared.made.Leg.{Leg}
use Rattle.strip_moves.specs.Grounds.{ground_of}
use Rattle.walk_check.specs.Corners.{AreGoodLegs, IsFirstBadLeg}
use Rattle.walk_check.proofs.Items.{corner_more, good_more, first_bad}
use Rattle.walk_check.proofs.legs.first_bad_leg.Goals as goal

pub returns-then-not-branch-clause-some : goal.returns-then-not-branch-clause-some
returns-then-not-branch-clause-some g c =
    let b = c.args.board.now.parts in
    let ground = ground_of b c.args.planes.now c.args.net in
    let start = c.args.conn.now.start in
    let items = c.as_slice-leg-items.result.now in
    let i = c.loop-leg.leg-index in
    let l : i < length items = omega arith in
    let first : IsFirstBadLeg b ground start items (i + 1) = first_bad b ground start items i _ c.loop-leg.from l c.loop-leg.invariant.from c.loop-leg.invariant.good
    (λ h. let k : c.in_ok-is_good_leg.field-0 ≡ true = (c.in_ok-is_good_leg.ensures {u = tt}).1 h in let n = c.if-not-branch.true in cc) in
    let P : List Leg → Type 0 = λ legs. IsFirstBadLeg b ground start legs (i + 1) in
    let Q : ℕ → Type 0 = λ k. IsFirstBadLeg b ground start c.args.conn.now.legs k in
    subst Q (ap (λ (k : ℕ). k + 1) (sym c.loop-leg.invariant.corner)) (subst P c.as_slice-leg-items.ensures first)

pub loop-leg-preserved : goal.loop-leg-preserved
loop-leg-preserved g c =
    let b = c.args.board.now.parts in
    let ground = ground_of b c.args.planes.now c.args.net in
    let start = c.args.conn.now.start in
    let items = c.as_slice-leg-items.result.now in
    let i = c.loop-leg.leg-index in
    let l : i < length items = omega arith in
    record {
      corner = omega arith;
      from = c.end-from.ensures ∙ sym (corner_more start items i _ l);
      good = good_more b ground start items i _ c.loop-leg.from l c.loop-leg.invariant.from c.loop-leg.invariant.good ((c.in_ok-is_good_leg.ensures {u = tt}).0 c.if-not-branch.false);
    }

pub returns-clause-none : goal.returns-clause-none
returns-clause-none g c =
    let b = c.args.board.now.parts in
    let ground = ground_of b c.args.planes.now c.args.net in
    let start = c.args.conn.now.start in
    let P : List Leg → Type 0 = λ legs. AreGoodLegs b ground start legs (length legs) in
    let all : P c.as_slice-leg-items.result.now = λ m leg l e. c.loop-leg.invariant.good m leg (omega arith) e in
    subst P c.as_slice-leg-items.ensures all
