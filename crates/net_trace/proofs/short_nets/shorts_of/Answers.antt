use Rattle.std.proofs.Common.{ℕ, length, subst, arith}
use Rattle.net_trace.specs.Listing.{IsListed, IsShortBefore, pair_of}
use Rattle.net_trace.specs.Report.{IsListOf, IsEarlierPair}
use Rattle.net_trace.proofs.Shorted.{shorts_all, has_known}
use Rattle.net_trace.proofs.short_nets.shorts_of.Goals as goal

pub returns : goal.returns
returns c =
    let pieces = c.args.pieces.now in
    let numbers = c.args.numbers.now in
    shorts_all pieces (IsListed numbers) c.args.nets (λ s q. has_known pieces numbers c.args.nets c.requires.within (IsListed numbers) (length pieces) s.a q.group q.of_a) c.loop-net.shorts
    (subst (λ (n : ℕ). IsListOf IsEarlierPair (IsShortBefore pieces (IsListed numbers) (pair_of n 0)) c.loop-net.shorts) (omega arith) c.loop-net.invariant)
