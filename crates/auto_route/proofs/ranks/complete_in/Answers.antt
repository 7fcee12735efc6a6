use Rattle.std.proofs.Common.{sym, ◌∙◌, arith}
use Rattle.auto_route.proofs.Ordering.{none_complete, one_complete}
use Rattle.auto_route.proofs.ranks.complete_in.Goals as goal
use Rattle.auto_route.proofs.ranks.complete_in.Goals.{else-is_complete, then-is_complete}

pub loop-number-preserved : goal.loop-number-preserved
loop-number-preserved c =
    let b = c.args.board.now.parts in
    let lists = c.args.made.now.lists in
    let loop = c.loop-number in
    elim c.if-is_complete.branch [
      | then-is_complete w ↦
          let one = one_complete b lists loop.number (sym c.is_complete.ensures ∙ w.if-is_complete.true) in
          record { count = omega (arith, w.complete-is, one); few = omega (arith, w.complete-is) }
      | else-is_complete w ↦
          let none = none_complete b lists loop.number (sym c.is_complete.ensures ∙ w.if-is_complete.false) in
          record { count = omega (arith, w.complete-is, none); few = omega (arith, w.complete-is) }
    ]
