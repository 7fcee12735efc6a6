use Rattle.std.proofs.Common.{◌<◌, length, sym, arith}
use Rattle.std.specs.Prelude.{Some, None}
use Rattle.std.proofs.lemmas.List.{get_or-set_same}
use Rattle.std.proofs.lemmas.Result.{on_ok_weaker}
use Rattle.net_trace.proofs.Floods.{flood_begins, reached_still, blank_if_none}
use Rattle.net_trace.proofs.flood.Flood.flood_from.Goals as goal

pub flood-requires : goal.flood-requires
flood-requires c =
    let groups = c.args.self.now.groups.items in
    let l : c.args.first < length groups = omega (arith, c.requires.first, c.requires.flood.each) in
    let none = blank_if_none groups c.args.first c.index.result.now l c.index.ensures (sym c.if-is_some.ensures) in
    record { flood = flood_begins c.args.pieces.now groups c.args.self.now.front.items c.push.new.self.items c.args.first c.requires.empty c.in_ok-push.ensures.items c.requires.flood c.requires.first none c.requires.before }

pub returns-clause-stay : goal.returns-clause-stay
returns-clause-stay c =
    let groups = c.args.self.now.groups.items in
    let l : c.args.first < length groups = omega (arith, c.requires.first, c.requires.flood.each) in
    let none = blank_if_none groups c.args.first c.index.result.now l c.index.ensures (sym c.if-is_some.ensures) in
    on_ok_weaker c.flood.result (λ stay i h. stay i (reached_still groups c.args.first c.args.first none i h)) c.flood.ensures.stay

pub returns-clause-reached : goal.returns-clause-reached
returns-clause-reached c =
    let groups = c.args.self.now.groups.items in
    let l : c.args.first < length groups = omega (arith, c.requires.first, c.requires.flood.each) in
    on_ok_weaker c.flood.result (λ stay. stay c.args.first (c.args.first, get_or-set_same groups c.args.first (Some c.args.first) None l)) c.flood.ensures.stay
