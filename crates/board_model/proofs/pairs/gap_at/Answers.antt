use Rattle.std.proofs.Common.{◌≡◌, ◌+◌, ◌*◌, ◌<◌, length, ap, subst, sym}
use Rattle.board_parts.proofs.Tables.{in_table, measure_at, measure_at_is}
use Rattle.board_model.proofs.pairs.gap_at.Goals as goal

pub returns-clause-value : goal.returns-clause-value
returns-clause-value c =
    let b = c.args.parts.now in
    let n = length b.classes in
    let row = c.args.layer * n + c.args.c in
    let inside : row * n + c.args.d < length b.gaps = subst (λ m. row * n + c.args.d < m) (sym c.requires.gaps) (in_table row c.args.d (length b.layers * n) n (in_table c.args.layer c.args.c (length b.layers) n c.requires.layer c.requires.first) c.requires.second) in
    measure_at c.as_slice.result.now b.gaps _ _ c.requires.each c.as_slice.ensures (ap (λ m. (c.args.layer * m + c.args.c) * m + c.args.d) c.len-classes.ensures) inside

pub returns-clause-measure : goal.returns-clause-measure
returns-clause-measure c =
    let b = c.args.parts.now in
    let n = length b.classes in
    let row = c.args.layer * n + c.args.c in
    let inside : row * n + c.args.d < length b.gaps = subst (λ m. row * n + c.args.d < m) (sym c.requires.gaps) (in_table row c.args.d (length b.layers * n) n (in_table c.args.layer c.args.c (length b.layers) n c.requires.layer c.requires.first) c.requires.second) in
    measure_at_is c.as_slice.result.now b.gaps _ _ c.requires.each c.as_slice.ensures (ap (λ m. (c.args.layer * m + c.args.c) * m + c.args.d) c.len-classes.ensures) inside
