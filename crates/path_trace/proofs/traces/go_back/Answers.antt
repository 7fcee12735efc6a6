use Rattle.std.proofs.Common.{ℕ, ◌<◌, Option, length, subst, arith}
use Rattle.std.proofs.lemmas.Option.{IfSome_then}
use Rattle.std.specs.Prelude.{IfSome}
use Rattle.path_trace.specs.Traces.{IsTracedTo}
use Rattle.path_trace.proofs.Backwards.{whole_by}
use Rattle.path_trace.proofs.traces.go_back.Goals as goal

pub loop-next-preserved : goal.loop-next-preserved
loop-next-preserved c =
    let entries = c.args.entries.now in
    let old = c.loop-next.path in
    let within : c.in-Some.number < length entries = subst (λ (o : Option ℕ). IfSome o (λ m. m < length entries)) c.in-Some.is c.loop-next.invariant.there in
    record {
      there = IfSome_then c.in_ok-next.next c.in_ok-next.ensures.falls (λ m l. omega (arith, l, within));
      back = λ b g sources goal total sound t.
          c.in_ok-next.ensures.back b g sources goal total sound
          (subst (λ (o : Option ℕ). IsTracedTo b g sources entries goal total o old) c.in-Some.is (c.loop-next.invariant.back b g sources goal total sound t));
    }

pub returns : goal.returns
returns c = λ b g sources goal total sound t.
    whole_by b g sources c.args.entries.now goal total c.loop-next.next c.loop-next.path c.in_default.not-Some (c.loop-next.invariant.back b g sources goal total sound t)
