use Rattle.std.specs.Prelude.{All, take, Any}
use Rattle.geo_rect.specs.declared.ids.Spot.{Spot}
use Rattle.net_trace.specs.Touching.{SharePoint}
use Rattle.net_trace.proofs.touching.touch.Given as goal

-- none of the first piece's areas so far has a point in common with one of the other's
abbrev pub invariant-loop-spot : goal.invariant-loop-spot
invariant-loop-spot l = All (λ (s : Spot). ¬ Any (SharePoint s) l.b.area) (take l.spot-index l.spot-items)
