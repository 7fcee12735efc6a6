use Rattle.std.proofs.Common.{sym, subst, refl, arith}
use Rattle.std.proofs.lemmas.Bool.{false≢true}
use Rattle.std.proofs.lemmas.List.Elements.{All-more}
use Rattle.board_model.specs.declared.shapes.Shape.{Shape}
use Rattle.zone_fill.specs.Seeds.{IsSeedOf}
use Rattle.zone_fill.proofs.Seeding.{seed_here, seed_nowhere}
use Rattle.zone_fill.proofs.seeds.has_seed.Goals as goal

pub returns-then-is_seed : goal.returns-then-is_seed
returns-then-is_seed c =
    (λ t. seed_here c.args.shapes.now c.args.net c.args.layer c.args.part c.shape-item.result (c.loop-shape.shape-index, omega arith, sym c.shape-item.is) (c.if-is_seed.ensures.0 refl), λ h. refl)

pub loop-shape-preserved : goal.loop-shape-preserved
loop-shape-preserved c =
    let No = λ (s : Shape). IsSeedOf c.args.part c.args.net c.args.layer s → ⊥ in
    All-more No c.args.shapes.now c.loop-shape.shape-index c.shape-item.result (omega arith) c.loop-shape.invariant
    (subst No c.shape-item.is (λ h. false≢true (c.if-is_seed.ensures.1 h)))

pub returns : goal.returns
returns c =
    (λ t. absurd (false≢true t), λ h. absurd (seed_nowhere c.args.shapes.now c.args.net c.args.layer c.args.part c.loop-shape.shape-index (omega arith) c.loop-shape.invariant h))
