use Rattle.std.proofs.Common.{◌+◌, ℕ, ap, subst, sym}
use Rattle.board_parts.specs.Lookup.{layer_at}
use Rattle.cert_check.specs.Bounds.{IsLeast, IsEndAt}
use Rattle.cert_check.proofs.Leasts.{end_at_only}
use Rattle.strip_moves.proofs.Bounded.{part_bounded}
use Rattle.cert_check.proofs.bounds.end_at.Goals as goal

pub dist-requires-clause-second : goal.dist-requires-clause-second
dist-requires-clause-second c = part_bounded c.in_ok-common.common c.args.e.strip c.in_ok-common.ensures.some.first c.requires.entry.strip

pub returns : goal.returns
returns c =
    let e = c.args.e in
    let P : ℕ → Type 0 = λ n. IsLeast (IsEndAt c.args.target e) (e.cost + n) in
    subst P (sym c.from.ensures) (end_at_only c.args.target e c.in_ok-common.common c.dist.result (ap layer_at c.if-target-e.false) c.in_ok-common.ensures.some c.dist.ensures.exact)
