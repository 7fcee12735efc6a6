use Rattle.std.proofs.Common.{◌+◌, List, length, subst, sym, arith}
use Rattle.std.proofs.lemmas.Result.{on_ok_weaker}
use Rattle.board_parts.specs.declared.parts.Pin.{Pin}
use Rattle.net_trace.specs.Listing.{IsSoBelow, IsListed, net_number}
use Rattle.net_trace.specs.Report.{IsListOf, HasPiece, IsOpen, IsEarlierNet, Differ}
use Rattle.net_trace.proofs.Grouped.{opens_skip, opens_next}
use Rattle.net_trace.proofs.open_nets.push_open.Goals as goal

pub returns-then-groups-lt2 : goal.returns-then-groups-lt2
returns-then-groups-lt2 c =
    let pieces = c.args.pieces.now in
    let numbers = c.args.numbers.now in
    let held = c.in_ok-held.held in
    let listed = subst (λ (ps : List Pin). IsListOf Differ (HasPiece (length ps) pieces (IsListed numbers) c.args.net) held) c.pins.ensures c.in_ok-held.ensures in
    opens_skip numbers c.args.board.now.parts pieces c.args.net held c.args.opens.now listed (omega (arith, c.len-groups.ensures)) c.requires.opens

pub returns : goal.returns
returns c =
    let pieces = c.args.pieces.now in
    let numbers = c.args.numbers.now in
    let b = c.args.board.now.parts in
    let held = c.in_ok-held.held in
    let listed = subst (λ (ps : List Pin). IsListOf Differ (HasPiece (length ps) pieces (IsListed numbers) c.args.net) held) c.pins.ensures c.in_ok-held.ensures in
    on_ok_weaker c.push.result
    (λ e. subst (IsListOf IsEarlierNet (IsSoBelow net_number (IsOpen b pieces (IsListed numbers)) (c.args.net.0 + 1))) (sym e) (opens_next numbers b pieces c.args.net c.len-groups.result held c.args.opens.now c.requires.net listed c.len-groups.ensures (omega arith) c.requires.opens))
    c.push.ensures.ok
