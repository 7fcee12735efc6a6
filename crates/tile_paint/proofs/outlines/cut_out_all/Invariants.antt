use Rattle.std.proofs.Common.{◌≡◌, drop}
use Rattle.tile_paint.specs.States.{IsCuttingOut}
use Rattle.tile_paint.proofs.outlines.cut_out_all.Given as goal

abbrev pub invariant-loop-id : goal.invariant-loop-id
invariant-loop-id l = record { domain : l.t.domain ≡ l.fn.t.domain; cutting : IsCuttingOut l.fn.t.store l.t.store l.area l.label (drop l.id-index l.ids) }
