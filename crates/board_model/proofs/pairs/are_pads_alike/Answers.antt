use Rattle.std.proofs.Common.{◌≡◌, ◌+◌, ◌*◌, ◌<◌, length, ap, sym, subst, ◌∙◌, arith, to_z, of_z, w32}
use Rattle.std.proofs.lemmas.Bool.{false≢true}
use Rattle.geo_rect.specs.declared.ids.ClassId.{ClassId}
use Rattle.geo_rect.specs.declared.ids.KindId.{KindId}
use Rattle.board_parts.specs.Lookup.{pad_of, inner_of}
use Rattle.board_model.proofs.Counting.{below_more}
use Rattle.board_parts.proofs.Tables.{in_table, item, measure_at}
use Rattle.board_model.proofs.pairs.are_pads_alike.Goals as goal

pub returns-then-as_slice-row : goal.returns-then-as_slice-row
returns-then-as_slice-row c =
    let b = c.args.parts.now in
    let n = length b.classes in
    let k = c.args.kind in
    let at : c.args.kind * c.len.result + c.loop-c.c ≡ k * n + c.loop-c.c = ap (λ m. k * m + c.loop-c.c) c.len.ensures in
    let place : k * n + c.loop-c.c < length b.kinds * n = in_table k c.loop-c.c (length b.kinds) n c.requires.kind (omega arith) in
    let inner = item c.as_slice.result.now b.inners _ (k * n + c.loop-c.c) c.requires.each c.as_slice.ensures at (subst (λ m. k * n + c.loop-c.c < m) (sym c.requires.inners) place) in
    let pad = item c.as_slice-in-loop-c.result.now b.pads _ (k * n + c.loop-c.c) c.requires.kinds.each_pad c.as_slice-in-loop-c.ensures at (subst (λ m. k * n + c.loop-c.c < m) (sym c.requires.kinds.pads) place) in
    (λ t. absurd (false≢true t), λ h. absurd (c.if-as_slice-row.true (ap (of_z w32) (inner ∙ h (record { 0 = c.loop-c.c }) (omega arith) ∙ sym pad))))

pub loop-c-preserved : goal.loop-c-preserved
loop-c-preserved c =
    let b = c.args.parts.now in
    let n = length b.classes in
    let k = c.args.kind in
    let kind : KindId = record { 0 = k } in
    let at : c.args.kind * c.len.result + c.loop-c.c ≡ k * n + c.loop-c.c = ap (λ m. k * m + c.loop-c.c) c.len.ensures in
    let place : k * n + c.loop-c.c < length b.kinds * n = in_table k c.loop-c.c (length b.kinds) n c.requires.kind (omega arith) in
    let inner = measure_at c.as_slice.result.now b.inners _ (k * n + c.loop-c.c) c.requires.each c.as_slice.ensures at (subst (λ m. k * n + c.loop-c.c < m) (sym c.requires.inners) place) in
    let pad = measure_at c.as_slice-in-loop-c.result.now b.pads _ (k * n + c.loop-c.c) c.requires.kinds.each_pad c.as_slice-in-loop-c.ensures at (subst (λ m. k * n + c.loop-c.c < m) (sym c.requires.kinds.pads) place) in
    let here : inner_of b kind (record { 0 = c.loop-c.c }) ≡ pad_of b kind (record { 0 = c.loop-c.c }) = sym inner ∙ ap (to_z w32) c.if-as_slice-row.false ∙ pad in
    λ d t. below_more (λ m. inner_of b kind (record { 0 = m }) ≡ pad_of b kind (record { 0 = m })) c.loop-c.c (λ m u. c.loop-c.invariant (record { 0 = m }) u) here d.0 t
