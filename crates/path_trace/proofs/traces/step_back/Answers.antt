use Rattle.std.proofs.Common.{ℕ, ◌≡◌, Option, Some, length, refl, subst}
use Rattle.std.specs.Prelude.{slice_get}
use Rattle.std.proofs.lemmas.Option.{slice_get_read}
use Rattle.std.proofs.lemmas.Result.{IfOk-weaker}
use Rattle.geo_rect.specs.declared.shapes.Point.{Point}
use Rattle.geo_rect.specs.Distance.{apart, IsAway}
use Rattle.path_trace.specs.Traces.{LeavesEntry, GoesBack}
use Rattle.path_trace.proofs.Backwards.{at_front}
use Rattle.path_trace.proofs.traces.step_back.Goals as goal

pub returns-clause-back : goal.returns-clause-back
returns-clause-back c =
    let entries = c.args.entries.now in
    let n = c.args.number in
    let e = c.index-entries-number.result in
    let old = c.args.path.now in
    let mid = c.lead_from.new.self in
    let new = c.leave.new.path in
    let q = c.nearest-front.result in
    let i : slice_get entries n ≡ Some e = slice_get_read entries (length entries) n e refl c.requires.there c.index-entries-number.is in
    let away = subst (λ (p : Point). IsAway e.front p (apart q p)) c.place_of.ensures c.nearest-front.ensures.away in
    IfOk-weaker c.leave.result (λ (before : Option ℕ). LeavesEntry entries n e before mid new) (λ (before : Option ℕ). GoesBack entries n before old new)
    (λ before f. λ b g sources goal total sound t. f b g sources goal total sound i (at_front b g sources entries goal total sound n e q old mid i c.nearest-front.ensures.inside away c.in_ok-lead_from.ensures t))
    c.leave.ensures.back
