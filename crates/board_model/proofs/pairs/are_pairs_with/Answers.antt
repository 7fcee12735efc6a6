use Rattle.std.proofs.Common.{◌≡◌, ◌+◌, ◌<◌, ap, sym, ◌∙◌, arith, of_z, w32}
use Rattle.std.proofs.lemmas.Bool.{false≢true}
use Rattle.geo_rect.specs.declared.ids.ClassId.{ClassId}
use Rattle.geo_rect.specs.declared.ids.LayerId.{LayerId}
use Rattle.board_parts.specs.Lookup.{gap_of}
use Rattle.board_model.proofs.Counting.{below_more}
use Rattle.board_parts.proofs.Tables.{same_measure}
use Rattle.board_model.proofs.pairs.are_pairs_with.Goals as goal

pub returns-then-gap_at : goal.returns-then-gap_at
returns-then-gap_at c =
    let d : ClassId = record { 0 = c.loop-d.d } in
    (λ t. absurd (false≢true t), λ h. absurd (c.if-gap_at.true (ap (of_z w32) (c.gap_at.ensures.value ∙ h d (omega arith) ∙ sym c.gap_at-in-loop-d.ensures.value))))

pub loop-d-preserved : goal.loop-d-preserved
loop-d-preserved c =
    let b = c.args.parts.now in
    let l : LayerId = record { 0 = c.args.layer } in
    let first : ClassId = record { 0 = c.args.c } in
    let here : gap_of b l first (record { 0 = c.loop-d.d }) ≡ gap_of b l (record { 0 = c.loop-d.d }) first =
    sym c.gap_at.ensures.value ∙ same_measure _ _ c.gap_at.ensures.measure c.gap_at-in-loop-d.ensures.measure c.if-gap_at.false ∙ c.gap_at-in-loop-d.ensures.value in
    λ d t. below_more (λ n. gap_of b l first (record { 0 = n }) ≡ gap_of b l (record { 0 = n }) first) c.loop-d.d (λ n u. c.loop-d.invariant (record { 0 = n }) u) here d.0 t
