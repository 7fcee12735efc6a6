use Rattle.std.proofs.Common.{◌≡◌, ◌+◌, ◌<◌, length, sym, ◌∙◌, arith}
use Rattle.std.proofs.lemmas.Bool.{false≢true}
use Rattle.geo_rect.specs.declared.ids.ClassId.{ClassId}
use Rattle.board_parts.specs.Lookup.{pad_of, inner_of}
use Rattle.board_parts.specs.Rules.{HasNoInnerLayer}
use Rattle.board_model.proofs.Counting.{below_more}
use Rattle.board_model.proofs.pairs.are_plain_without_inner.Goals as goal

pub returns-then-not-is_plain_without_inner : goal.returns-then-not-is_plain_without_inner
returns-then-not-is_plain_without_inner c =
    (λ t. absurd (false≢true t), λ h. absurd (false≢true (sym c.if-not-is_plain_without_inner.true ∙ c.is_plain_without_inner.ensures.1 (λ d t u. h (record { 0 = c.loop-kind.kind }) d (omega arith) t u))))

pub loop-kind-preserved : goal.loop-kind-preserved
loop-kind-preserved c =
    let b = c.args.parts.now in
    λ k d t u v. below_more (λ n. (d : ClassId) → d.0 < length b.classes → HasNoInnerLayer b (record { 0 = n }) → inner_of b (record { 0 = n }) d ≡ pad_of b (record { 0 = n }) d) c.loop-kind.kind (λ n w d x y. c.loop-kind.invariant (record { 0 = n }) d w x y) (c.is_plain_without_inner.ensures.0 c.if-not-is_plain_without_inner.false) k.0 t d u v
