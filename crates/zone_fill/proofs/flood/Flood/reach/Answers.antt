use Rattle.std.proofs.Common.{◌<◌, ◌+◌, length, set, true, refl, sym, subst, ◌∙◌, arith}
use Rattle.std.proofs.lemmas.Bool.{false≢true}
use Rattle.zone_fill.specs.Flooding.{IsUntried, IsFlood}
use Rattle.zone_fill.proofs.Floods.{marked_within, flood_marked, flood_apart, flood_reaches, flooded_more, mark_read, next_of_numbers, numbers_next}
use Rattle.zone_fill.proofs.flood.Flood.reach.Goals as goal

pub returns-then-index-clause-flood : goal.returns-then-index-clause-flood
returns-then-index-clause-flood c =
    let marks = c.args.self.now.marks.items in
    let l : c.args.to < length marks = omega (arith, c.requires.to, c.requires.flood.each) in
    flood_marked c.args.parts.now marks c.args.self.now.front.items c.args.from c.args.to
    (mark_read marks c.args.to c.index.result.now l c.index.ensures ∙ c.if-index.true) c.requires.flood

pub returns-then-not-are_next-clause-flood : goal.returns-then-not-are_next-clause-flood
returns-then-not-are_next-clause-flood c =
    let parts = c.args.parts.now in
    flood_apart parts c.args.self.now.marks.items c.args.self.now.front.items c.args.from c.args.to
    (λ t. false≢true (c.if-not-are_next.ensures.1 (next_of_numbers parts c.args.from c.args.to c.index-parts-from.result c.index-parts-to.result c.index-parts-from.is c.index-parts-to.is t))) c.requires.flood

pub returns-clause-flood : goal.returns-clause-flood
returns-clause-flood c =
    let marks = c.args.self.now.marks.items in
    subst (IsFlood c.args.parts.now (IsUntried c.args.from (c.args.to + 1)) (set marks c.args.to true)) (sym c.in_ok-push.ensures.items)
    (flood_reaches c.args.parts.now marks c.args.self.now.front.items c.args.from c.args.to c.requires.to c.requires.flood)

pub returns-clause-sound : goal.returns-clause-sound
returns-clause-sound c =
    let parts = c.args.parts.now in
    let marks = c.args.self.now.marks.items in
    let from : c.args.from < length parts = omega (arith, marked_within marks c.args.from c.requires.from, c.requires.flood.each) in
    let next = numbers_next parts c.args.from c.args.to c.index-parts-from.result c.index-parts-to.result c.index-parts-from.is c.index-parts-to.is from c.requires.to (c.if-not-are_next.ensures.0 refl) in
    flooded_more parts marks c.args.from c.args.to c.requires.from next
