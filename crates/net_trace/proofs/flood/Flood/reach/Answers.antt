use Rattle.std.proofs.Common.{◌<◌, ◌+◌, length, set, ap, sym, subst, refl, ◌∙◌, arith}
use Rattle.std.proofs.lemmas.Bool.{false≢true}
use Rattle.std.specs.Prelude.{Some}
use Rattle.std.proofs.lemmas.List.{length_push}
use Rattle.net_trace.specs.Flooding.{IsUntried, IsFlood}
use Rattle.net_trace.proofs.Floods.{flood_reached, flood_apart, flood_reaches, reached_still, reached_if_some, blank_if_none, blank-set}
use Rattle.net_trace.proofs.Sharing.{touch_of_numbers, numbers_touch}
use Rattle.net_trace.proofs.flood.Flood.reach.Goals as goal

pub returns-then-is_some-clause-flood : goal.returns-then-is_some-clause-flood
returns-then-is_some-clause-flood c =
    let groups = c.args.self.now.groups.items in
    let l : c.args.to < length groups = omega (arith, c.requires.to, c.requires.flood.each) in
    flood_reached c.args.pieces.now c.args.group groups c.args.self.now.front.items c.args.from c.args.to
    (reached_if_some groups c.args.to c.index.result.now l c.index.ensures (sym c.if-is_some.ensures)) c.requires.flood

pub returns-then-not-touch-clause-flood : goal.returns-then-not-touch-clause-flood
returns-then-not-touch-clause-flood c =
    let pieces = c.args.pieces.now in
    flood_apart pieces c.args.group c.args.self.now.groups.items c.args.self.now.front.items c.args.from c.args.to
    (λ t. false≢true (c.if-not-touch.ensures.1 (touch_of_numbers pieces c.args.from c.args.to c.index-pieces-from.result c.index-pieces-to.result c.index-pieces-from.is c.index-pieces-to.is t))) c.requires.flood

pub returns-clause-flood : goal.returns-clause-flood
returns-clause-flood c =
    let pieces = c.args.pieces.now in
    let groups = c.args.self.now.groups.items in
    let front = c.args.self.now.front.items in
    let l : c.args.to < length groups = omega (arith, c.requires.to, c.requires.flood.each) in
    let none = blank_if_none groups c.args.to c.index.result.now l c.index.ensures (sym c.if-is_some.ensures) in
    let t = numbers_touch pieces c.args.from c.args.to c.index-pieces-from.result c.index-pieces-to.result c.index-pieces-from.is c.index-pieces-to.is (c.requires.flood.right c.args.from c.args.group c.requires.from).joined.known c.requires.to (c.if-not-touch.ensures.0 refl) in
    subst (IsFlood pieces c.args.group (IsUntried c.args.from (c.args.to + 1)) (set groups c.args.to (Some c.args.group))) (sym c.in_ok-push.ensures.items)
    (flood_reaches pieces c.args.group groups front c.args.from c.args.to c.requires.from none t c.requires.flood)

pub returns-clause-stay : goal.returns-clause-stay
returns-clause-stay c =
    let groups = c.args.self.now.groups.items in
    let l : c.args.to < length groups = omega (arith, c.requires.to, c.requires.flood.each) in
    reached_still groups c.args.to c.args.group (blank_if_none groups c.args.to c.index.result.now l c.index.ensures (sym c.if-is_some.ensures))

pub returns-clause-less : goal.returns-clause-less
returns-clause-less c =
    let groups = c.args.self.now.groups.items in
    let l : c.args.to < length groups = omega (arith, c.requires.to, c.requires.flood.each) in
    let none = blank_if_none groups c.args.to c.index.result.now l c.index.ensures (sym c.if-is_some.ensures) in
    let less = blank-set groups c.args.to c.args.group l none in
    let more = ap length c.in_ok-push.ensures.items ∙ length_push c.args.self.now.front.items c.args.to in
    omega (arith, less, more)
