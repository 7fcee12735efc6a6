use Rattle.std.proofs.Common.{◌+◌, ◌*◌, ◌<◌, length, ap, subst, sym}
use Rattle.board_parts.proofs.Tables.{in_table, measure_at, measure_at_is}
use Rattle.board_parts.proofs.boards.Board.gap.Goals as goal

pub returns-clause-value : goal.returns-clause-value
returns-clause-value c =
    let b = c.args.self.now.parts in
    let n = length b.classes in
    let row = c.args.l.0 * n + c.args.a.0 in
    let inside : row * n + c.args.b.0 < length b.gaps = subst (λ m. row * n + c.args.b.0 < m) (sym c.args.self.now.kept.gaps) (in_table row c.args.b.0 (length b.layers * n) n (in_table c.args.l.0 c.args.a.0 (length b.layers) n c.requires.layer c.requires.first) c.requires.second) in
    measure_at c.as_slice.result.now b.gaps _ _ c.args.self.now.kept.each_gap c.as_slice.ensures (ap (λ m. (c.args.l.0 * m + c.args.a.0) * m + c.args.b.0) c.len-classes.ensures) inside

pub returns-clause-measure : goal.returns-clause-measure
returns-clause-measure c =
    let b = c.args.self.now.parts in
    let n = length b.classes in
    let row = c.args.l.0 * n + c.args.a.0 in
    let inside : row * n + c.args.b.0 < length b.gaps = subst (λ m. row * n + c.args.b.0 < m) (sym c.args.self.now.kept.gaps) (in_table row c.args.b.0 (length b.layers * n) n (in_table c.args.l.0 c.args.a.0 (length b.layers) n c.requires.layer c.requires.first) c.requires.second) in
    measure_at_is c.as_slice.result.now b.gaps _ _ c.args.self.now.kept.each_gap c.as_slice.ensures (ap (λ m. (c.args.l.0 * m + c.args.a.0) * m + c.args.b.0) c.len-classes.ensures) inside
