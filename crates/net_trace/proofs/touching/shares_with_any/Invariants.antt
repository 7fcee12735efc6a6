use Rattle.std.specs.Prelude.{All, take}
use Rattle.geo_rect.specs.declared.ids.Spot.{Spot}
use Rattle.net_trace.specs.Touching.{SharePoint}
use Rattle.net_trace.proofs.touching.shares_with_any.Given as goal

-- none of the areas so far has a point in common with this one
abbrev pub invariant-loop-other : goal.invariant-loop-other
invariant-loop-other l = All (λ (t : Spot). ¬ SharePoint l.spot t) (take l.other-index l.area)
