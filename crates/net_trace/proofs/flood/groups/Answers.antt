use Rattle.std.proofs.Common.{◌≡◌, ◌+◌, ℕ, sym, subst, map, arith}
use Rattle.std.specs.Prelude.{Option, unwrap_or}
use Rattle.std.proofs.lemmas.Result.{IfOk-weaker}
use Rattle.net_trace.specs.Flooding.{IsNoPair}
use Rattle.net_trace.specs.Touching.{AreGroupNumbers}
use Rattle.net_trace.proofs.Floods.{flood_of_any, reached_more, numbers_right}
use Rattle.net_trace.proofs.flood.groups.Goals as goal

pub loop-first-preserved : goal.loop-first-preserved
loop-first-preserved c =
    let done = c.in_ok-flood_from.ensures in
    let groups = c.flood_from.new.self.groups.items in
    let front = c.flood_from.new.self.front.items in
    record {
      flood = flood_of_any c.args.pieces.now c.loop-first.first (c.loop-first.first + 1) groups front done.empty done.flood;
      empty = done.empty;
      before = reached_more c.loop-first.flood.groups.items groups c.loop-first.first c.loop-first.invariant.before done.stay done.reached;
    }

pub returns : goal.returns
returns c =
    let groups = c.loop-first.flood.groups.items in
    IfOk-weaker c.numbers.result (λ numbers. numbers ≡ map (λ (g : Option ℕ). unwrap_or g 0) groups) (λ numbers. AreGroupNumbers c.args.pieces.now numbers)
    (λ numbers e. subst (AreGroupNumbers c.args.pieces.now) (sym e) (numbers_right c.args.pieces.now c.loop-first.first IsNoPair groups c.loop-first.flood.front.items c.loop-first.invariant.flood (λ i l. c.loop-first.invariant.before i (omega (arith, l)))))
    c.numbers.ensures
