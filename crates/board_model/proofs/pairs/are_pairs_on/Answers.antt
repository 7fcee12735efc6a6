use Rattle.std.proofs.Common.{◌≡◌, ◌+◌, ◌<◌, length, sym, ◌∙◌, arith}
use Rattle.std.proofs.lemmas.Bool.{false≢true}
use Rattle.geo_rect.specs.declared.ids.ClassId.{ClassId}
use Rattle.geo_rect.specs.declared.ids.LayerId.{LayerId}
use Rattle.board_parts.specs.Lookup.{gap_of}
use Rattle.board_model.proofs.Counting.{below_more}
use Rattle.board_model.proofs.pairs.are_pairs_on.Goals as goal

pub returns-then-not-are_pairs_with : goal.returns-then-not-are_pairs_with
returns-then-not-are_pairs_with c =
    (λ t. absurd (false≢true t), λ h. absurd (false≢true (sym c.if-not-are_pairs_with.true ∙ c.are_pairs_with.ensures.1 (λ d t. h (record { 0 = c.loop-c.c }) d (omega arith) t))))

pub loop-c-preserved : goal.loop-c-preserved
loop-c-preserved c =
    let b = c.args.parts.now in
    let l : LayerId = record { 0 = c.args.layer } in
    λ e d t u. below_more (λ n. (d : ClassId) → d.0 < length b.classes → gap_of b l (record { 0 = n }) d ≡ gap_of b l d (record { 0 = n })) c.loop-c.c (λ n v d w. c.loop-c.invariant (record { 0 = n }) d v w) (c.are_pairs_with.ensures.0 c.if-not-are_pairs_with.false) e.0 t d u
