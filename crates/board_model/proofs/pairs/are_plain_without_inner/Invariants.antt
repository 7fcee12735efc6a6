use Rattle.std.proofs.Common.{◌≡◌, ◌<◌, length}
use Rattle.geo_rect.specs.declared.ids.ClassId.{ClassId}
use Rattle.geo_rect.specs.declared.ids.KindId.{KindId}
use Rattle.board_parts.specs.Lookup.{pad_of, inner_of}
use Rattle.board_parts.specs.Rules.{HasNoInnerLayer}
use Rattle.board_model.proofs.pairs.are_plain_without_inner.Given as goal

-- it is so for the kinds so far
abbrev pub invariant-loop-kind : goal.invariant-loop-kind
invariant-loop-kind l =
    (k : KindId) (c : ClassId) → k.0 < l.kind → c.0 < length l.parts.classes → HasNoInnerLayer l.parts k → inner_of l.parts k c ≡ pad_of l.parts k c
