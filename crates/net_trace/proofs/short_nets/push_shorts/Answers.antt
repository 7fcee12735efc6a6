use Rattle.std.proofs.Common.{◌+◌, ℕ, subst, sym, ◌∙◌, arith}
use Rattle.std.specs.Prelude.{length}
use Rattle.net_trace.specs.Listing.{IsListed, IsShortBefore, pair_of}
use Rattle.net_trace.specs.Report.{IsListOf, HasPiece, IsEarlierPair, Differ}
use Rattle.net_trace.proofs.Shorted.{shorts_begin, shorts_next, shorts_skip, shorts_end, short_if_met, none_if_unmet, has_known, test_read}
use Rattle.net_trace.proofs.short_nets.push_shorts.Goals as goal
use Rattle.net_trace.proofs.short_nets.push_shorts.Goals.{then-index+in_ok-push, else-index}

pub loop-other-init : goal.loop-other-init
loop-other-init c = shorts_begin c.args.pieces.now (IsListed c.args.numbers.now) c.args.net.0 c.args.shorts.now c.requires.shorts

pub loop-other-preserved : goal.loop-other-preserved
loop-other-preserved c =
    let pieces = c.args.pieces.now in
    let In = IsListed c.args.numbers.now in
    let met = c.in_ok-met.met.items in
    let told = c.in_ok-met.ensures in
    let a = c.args.net.0 in
    let b = c.loop-other.other in
    let listed = subst (IsListOf Differ (HasPiece (length pieces) pieces In c.args.net)) (sym c.as_slice.ensures) c.in_ok-held.ensures in
    let read = test_read met b c.index.result.now (omega (arith, told.each)) c.index.ensures in
    let Shorts = IsListOf IsEarlierPair (IsShortBefore pieces In (pair_of a (b + 1))) in
    elim c.if-index.branch [
      | then-index+in_ok-push w ↦ subst Shorts (sym (w.shorts-is ∙ w.in_ok-push.ensures.ok)) (shorts_next pieces In a b c.loop-other.shorts (short_if_met pieces In c.args.net c.as_slice.result.now listed c.args.nets met told b (omega arith) (read ∙ w.if-index.true)) c.loop-other.invariant)
      | else-index w ↦ subst Shorts (sym w.shorts-is) (shorts_skip pieces In a b c.loop-other.shorts (none_if_unmet pieces In c.args.net c.as_slice.result.now listed c.args.nets met told b (read ∙ w.if-index.false)) c.loop-other.invariant)
    ]

pub returns : goal.returns
returns c =
    let pieces = c.args.pieces.now in
    let numbers = c.args.numbers.now in
    shorts_end pieces (IsListed numbers) c.args.net.0 c.args.nets (λ s q. has_known pieces numbers c.args.nets c.requires.within (IsListed numbers) (length pieces) s.b q.group q.of_b) c.loop-other.shorts
    (subst (λ (n : ℕ). IsListOf IsEarlierPair (IsShortBefore pieces (IsListed numbers) (pair_of c.args.net.0 n)) c.loop-other.shorts) (omega arith) c.loop-other.invariant)
