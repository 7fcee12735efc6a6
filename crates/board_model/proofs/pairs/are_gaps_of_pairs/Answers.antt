use Rattle.std.proofs.Common.{◌≡◌, ◌+◌, ◌<◌, length, sym, ◌∙◌, arith}
use Rattle.std.proofs.lemmas.Bool.{false≢true}
use Rattle.geo_rect.specs.declared.ids.ClassId.{ClassId}
use Rattle.board_parts.specs.Lookup.{gap_of}
use Rattle.board_model.proofs.Counting.{below_more}
use Rattle.board_model.proofs.pairs.are_gaps_of_pairs.Goals as goal

pub returns-then-not-are_pairs_on : goal.returns-then-not-are_pairs_on
returns-then-not-are_pairs_on c =
    (λ t. absurd (false≢true t), λ h. absurd (false≢true (sym c.if-not-are_pairs_on.true ∙ c.are_pairs_on.ensures.1 (λ e d t u. h (record { 0 = c.loop-layer.layer }) e d (omega arith) t u))))

pub loop-layer-preserved : goal.loop-layer-preserved
loop-layer-preserved c =
    let b = c.args.parts.now in
    λ m e d t u v. below_more (λ n. (e d : ClassId) → e.0 < length b.classes → d.0 < length b.classes → gap_of b (record { 0 = n }) e d ≡ gap_of b (record { 0 = n }) d e) c.loop-layer.layer (λ n w e d x y. c.loop-layer.invariant (record { 0 = n }) e d w x y) (c.are_pairs_on.ensures.0 c.if-not-are_pairs_on.false) m.0 t e d u v
