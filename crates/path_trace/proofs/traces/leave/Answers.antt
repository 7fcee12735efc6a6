use Rattle.std.proofs.Common.{◌≡◌, get_or, subst}
use Rattle.std.proofs.lemmas.Option.{get_or_from_slice_get}
use Rattle.board_model.specs.declared.made.Leg.TheVariants.{Via}
use Rattle.board_model.specs.Shapes.{place_of}
use Rattle.route_law.specs.declared.certs.Entry.{Entry}
use Rattle.route_law.specs.declared.certs.Origin.TheVariants.{Source, Step, Via as ByVia}
use Rattle.path_trace.specs.Paths.{node_at, IsLed}
use Rattle.path_trace.specs.Traces.{IsOneStepOff, IsCrossed}
use Rattle.path_trace.proofs.Backwards.{from_source, one_step_off, by_step, by_via, origin_is}
use Rattle.path_trace.proofs.traces.leave.Goals as goal

pub returns-in-Source-clause-back : goal.returns-in-Source-clause-back
returns-in-Source-clause-back c =
    λ b g sources goal total sound i at.
    let entries = c.args.entries.now in
    let e = c.args.entry in
    from_source b g sources entries goal total sound c.in-Source.field-0 e c.args.path.now
    (origin_is b g sources entries goal total sound c.args.number e (Source c.in-Source.field-0) i c.in-Source.is) at

pub returns-in_ok-cross-in-Step-clause-back : goal.returns-in_ok-cross-in-Step-clause-back
returns-in_ok-cross-in-Step-clause-back c =
    λ b g sources goal total sound i at.
    let entries = c.args.entries.now in
    let e = c.args.entry in
    let n = c.args.number in
    let m = c.in-Step.m in
    let old = c.args.path.now in
    let new = c.cross.new.path in
    let f = origin_is b g sources entries goal total sound n e (Step m) i c.in-Step.is in
    let is : get_or entries m c.index-entries-m.result ≡ f.entry = get_or_from_slice_get entries m f.entry c.index-entries-m.result f.numbered in
    let cross : IsOneStepOff f.entry.strip (place_of old.start) → IsCrossed f.entry.strip old new =
    subst (λ (x : Entry). IsOneStepOff x.strip (place_of old.start) → IsCrossed x.strip old new) is c.in_ok-cross-in-Step.ensures in
    let off = one_step_off b g sources entries goal total sound f.entry e n m old new i f.numbered at f.holds in
    by_step b g sources entries goal total sound f.entry e n m old new i f.numbered at f.holds (cross off)

pub returns-in_ok-push_via-in-Via-clause-back : goal.returns-in_ok-push_via-in-Via-clause-back
returns-in_ok-push_via-in-Via-clause-back c =
    λ b g sources goal total sound i at.
    let entries = c.args.entries.now in
    let e = c.args.entry in
    let n = c.args.number in
    let m = c.in-Via.m in
    let k = c.in-Via.kind in
    let old = c.args.path.now in
    let new = c.push_via.new.self in
    let f = origin_is b g sources entries goal total sound n e (ByVia m k) i c.in-Via.is in
    let is : get_or entries m c.index-entries-m-in-Via.result ≡ f.entry = get_or_from_slice_get entries m f.entry c.index-entries-m-in-Via.result f.numbered in
    let led = subst (λ (x : Entry). IsLed (node_at x.layer (place_of old.start)) (Via k old.start) old new) is c.in_ok-push_via-in-Via.ensures in
    by_via b g sources entries goal total sound f.entry e n m old new i f.numbered at k f.holds led
