use Rattle.std.proofs.Common.{◌≡◌, ◌≤ℤ◌, ◌+◌, arith}
use Rattle.std.proofs.lemmas.Int.{ints}
use Rattle.reply_reader.proofs.Decimals.{same_coordinate}
use Rattle.reply_reader.proofs.fields.area.Goals as goal

pub returns-then-x0-x1-clause-none : goal.returns-then-x0-x1-clause-none
returns-then-x0-x1-clause-none c = λ r at.
    let ws = c.args.words.now in
    let k = c.args.place in
    let left : c.in_ok-x0.x0 ≡ r.x0 = same_coordinate ws k c.in_ok-x0.x0 r.x0 c.in_ok-x0.ensures.some at.left in
    let right : c.in_ok-x1.x1 ≡ r.x1 = same_coordinate ws (k + 2) c.in_ok-x1.x1 r.x1 c.in_ok-x1.ensures.some at.right in
    let order : r.x0 ≤ℤ r.x1 = r.x_ordered in
    absurd (omega (arith, ints, c.if-x0-x1.true))

pub returns-then-y0-y1-clause-none : goal.returns-then-y0-y1-clause-none
returns-then-y0-y1-clause-none c = λ r at.
    let ws = c.args.words.now in
    let k = c.args.place in
    let below : c.in_ok-y0.y0 ≡ r.y0 = same_coordinate ws (k + 1) c.in_ok-y0.y0 r.y0 c.in_ok-y0.ensures.some at.below in
    let above : c.in_ok-y1.y1 ≡ r.y1 = same_coordinate ws (k + 3) c.in_ok-y1.y1 r.y1 c.in_ok-y1.ensures.some at.above in
    let order : r.y0 ≤ℤ r.y1 = r.y_ordered in
    absurd (omega (arith, ints, c.if-y0-y1.true))
