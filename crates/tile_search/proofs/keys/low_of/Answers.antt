use Rattle.std.proofs.Common.{◌+◌, ℕ, take, sym, subst, arith}
use Rattle.tile_search.proofs.Lows.{IsLowSoFar, low_first, low_more, low_all}
use Rattle.tile_search.proofs.keys.low_of.Goals as goal

pub loop-target-init : goal.loop-target-init
loop-target-init c = record {
  low = low_first c.args.targets.now c.args.front c.index-targets-0.result c.dist-low.result c.requires.target c.index-targets-0.is c.dist-low.ensures.exact;
  small = c.dist-low.ensures.small;
}

pub loop-target-preserved : goal.loop-target-preserved
loop-target-preserved c =
    let targets = c.args.targets.now in
    let i = c.loop-target.target-index in
    let P : ℕ → Type 0 = λ n. IsLowSoFar targets (take (i + 1) targets) c.args.front n in
    record {
      low = subst P (sym c.min-low.ensures)
          (low_more targets c.args.front i c.target-item.result c.loop-target.low c.dist.result (omega arith) c.target-item.is c.loop-target.invariant.low c.dist.ensures.exact);
      small = omega (arith, c.min-low.ensures, c.loop-target.invariant.small);
    }

pub returns-clause-exact : goal.returns-clause-exact
returns-clause-exact c = low_all c.args.targets.now c.args.front c.loop-target.target-index c.loop-target.low (omega arith) c.loop-target.invariant.low
