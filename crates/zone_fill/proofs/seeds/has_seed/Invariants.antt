use Rattle.std.specs.Prelude.{All, take}
use Rattle.board_model.specs.declared.shapes.Shape.{Shape}
use Rattle.zone_fill.specs.Seeds.{IsSeedOf}
use Rattle.zone_fill.proofs.seeds.has_seed.Given as goal

-- none of the shapes so far is a seed of the part
abbrev pub invariant-loop-shape : goal.invariant-loop-shape
invariant-loop-shape l = All (λ (s : Shape). ¬ IsSeedOf l.part l.net l.layer s) (take l.shape-index l.shapes)
