use Rattle.std.proofs.Common.{◌+◌, subst, sym}
use Rattle.std.proofs.lemmas.Result.{on_ok_weaker}
use Rattle.net_trace.specs.Listing.{IsSoBelow, IsListed, group_number}
use Rattle.net_trace.specs.Report.{IsListOf, IsGroup, IsEarlierGroup}
use Rattle.net_trace.proofs.Grouped.{groups_next}
use Rattle.net_trace.proofs.group_lists.push_group.Goals as goal

pub returns : goal.returns
returns c =
    let numbers = c.args.numbers.now in
    let first = c.args.first in
    on_ok_weaker c.push.result
    (λ e. subst (IsListOf IsEarlierGroup (IsSoBelow group_number (IsGroup (IsListed numbers)) (first + 1))) (sym e) (groups_next numbers first c.size_of.result c.args.groups.now c.requires.first c.if-numbers-first.false c.size_of.ensures c.requires.groups))
    c.push.ensures.ok
