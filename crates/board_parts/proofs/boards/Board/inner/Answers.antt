use Rattle.std.proofs.Common.{◌+◌, ◌*◌, ◌<◌, length, ap, subst, sym}
use Rattle.board_parts.proofs.Tables.{in_table, measure_at, measure_at_is}
use Rattle.board_parts.proofs.boards.Board.inner.Goals as goal

pub returns-clause-value : goal.returns-clause-value
returns-clause-value c =
    let b = c.args.self.now.parts in
    let k = c.args.k.0 in
    let inside : k * length b.classes + c.args.c.0 < length b.inners = subst (λ m. k * length b.classes + c.args.c.0 < m) (sym c.args.self.now.kept.inners) (in_table k c.args.c.0 (length b.kinds) (length b.classes) c.requires.kind c.requires.class) in
    measure_at c.as_slice.result.now b.inners (k * c.len.result + c.args.c.0) _ c.args.self.now.kept.each_inner c.as_slice.ensures (ap (λ m. k * m + c.args.c.0) c.len.ensures) inside

pub returns-clause-measure : goal.returns-clause-measure
returns-clause-measure c =
    let b = c.args.self.now.parts in
    let k = c.args.k.0 in
    let inside : k * length b.classes + c.args.c.0 < length b.inners = subst (λ m. k * length b.classes + c.args.c.0 < m) (sym c.args.self.now.kept.inners) (in_table k c.args.c.0 (length b.kinds) (length b.classes) c.requires.kind c.requires.class) in
    measure_at_is c.as_slice.result.now b.inners (k * c.len.result + c.args.c.0) _ c.args.self.now.kept.each_inner c.as_slice.ensures (ap (λ m. k * m + c.args.c.0) c.len.ensures) inside
