use Rattle.std.proofs.Common.{◌≡◌, ◌∙◌, length, arith}
use Rattle.std.proofs.lemmas.List.Elements.{All-push, All-same}
use Rattle.geo_rect.specs.Plane.{IsBounded}
use Rattle.route_law.specs.declared.certs.Entry.{Entry}
use Rattle.wavefront.proofs.Chained.{chained_as, chained_still}
use Rattle.wavefront.proofs.tables.Table.settle.Goals as goal

pub invariant_of-self-in_err-insert : goal.invariant_of-self-in_err-insert
invariant_of-self-in_err-insert c =
    let old = c.self.inside in (
      All-same (λ (e : Entry). IsBounded e.front) c.reserve.new.self.items old.settled.items c.reserve.ensures.items c.self.invariant.0,
      chained_still old.settled.items c.reserve.new.self.items old.earlier.items c.reserve-2.new.self.items old.latest c.insert.new.self
          c.reserve.ensures.items c.reserve-2.ensures.items (c.in_err-insert.ensures.err) c.self.invariant.1,
    )

pub invariant_of-self-2 : goal.invariant_of-self-2
invariant_of-self-2 c =
    let old = c.self.inside in
    let counted : c.len-number.result ≡ length old.settled.items = omega (arith, c.len-number.ensures, old.settled.ok) in
    let bounded = All-same (λ (e : Entry). IsBounded e.front) c.reserve.new.self.items old.settled.items c.reserve.ensures.items c.self.invariant.0 in (
      All-same (λ (e : Entry). IsBounded e.front) c.push.new.self.items _ c.in_ok-push.ensures.items (All-push (λ (e : Entry). IsBounded e.front) c.reserve.new.self.items c.args.e bounded c.requires),
      chained_as old.settled.items c.reserve.new.self.items c.push.new.self.items old.earlier.items c.reserve-2.new.self.items c.push-2.new.self.items old.latest c.insert.new.self c.args.e c.corner-place.result c.copied-before.result c.len-number.result
          c.in_ok-push.ensures.items c.reserve.ensures.items c.in_ok-push-2.ensures.items c.reserve-2.ensures.items (c.copied-before.ensures ∙ c.get.ensures.value) c.corner-place.ensures counted c.in_ok-insert.ensures.updates.0 c.self.invariant.1,
    )
