use Rattle.std.proofs.Common.{◌≡◌, ◌<◌}
use Rattle.geo_rect.specs.declared.ids.ClassId.{ClassId}
use Rattle.board_parts.specs.Lookup.{pad_of, inner_of}
use Rattle.board_model.proofs.pairs.are_pads_alike.Given as goal

-- the pads of the classes so far are alike
abbrev pub invariant-loop-c : goal.invariant-loop-c
invariant-loop-c l = (c : ClassId) → c.0 < l.c → inner_of l.parts (record { 0 = l.kind }) c ≡ pad_of l.parts (record { 0 = l.kind }) c
