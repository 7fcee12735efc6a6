use Rattle.std.proofs.Common.{◌+◌, ◌<◌, List, [], ◌∷◌, All, length, get_or, take, sym, ◌∙◌, subst, arith}
use Rattle.std.proofs.lemmas.List.Elements.{All-append, All-cons, All-get_or, All-nil}
use Rattle.board_parts.specs.declared.commands.Command.TheVariants as command
use Rattle.board_parts.specs.declared.parts.BoardParts.{BoardParts}
use Rattle.geo_rect.specs.declared.ids.NetId.{NetId}
use Rattle.route_law.specs.Regular.{IsNetOf}
use Rattle.route_law.specs.Steps.{IsRunFrom, IsStep}
use Rattle.yield_route.specs.declared.told.Ripped.{Ripped}
use Rattle.yield_route.specs.Named.{IsRippedOf}
use Rattle.yield_route.specs.Yielding.{rip_replies, rip_reply, rips_of}
use Rattle.yield_route.proofs.Routing.{rips_more}
use Rattle.yield_route.proofs.runs.rip_each.Goals as goal

pub loop-net-preserved : goal.loop-net-preserved
loop-net-preserved g c =
    let b = c.args.first.parts in
    let old = c.args.first.lists in
    let nets = c.args.nets.now in
    let i = c.loop-net.net-index in
    let first : NetId = record { 0 = 0 } in
    let net = get_or nets i first in
    let inside : i < length nets = omega arith in
    let mid = c.loop-net.s.lists in
    let new = c.in_ok-next.next.lists in
    let told = c.loop-net.told in
    let ripped = c.in_ok-next.ripped in
    let same = c.loop-net.invariant.board in
    let B : BoardParts → Type 0 = λ p. IsStep p mid (command.Rip net) (rip_reply ripped) new in
    let N : NetId → Type 0 = λ n. IsNetOf b n in
    let known : IsRippedOf b ripped = subst N (sym c.in_ok-next.ensures.net) (All-get_or (IsNetOf b) nets i first inside c.requires.nets) in
    let A : List Ripped → Type 0 = λ rs. IsRunFrom b old (rips_of (take (i + 1) nets)) (rip_replies rs) new in
    let Q : List Ripped → Type 0 = λ rs. All (IsRippedOf b) rs in
    record {
      run = subst A (sym c.in_ok-push.ensures.ok) (rips_more b old mid new nets i first told ripped inside c.loop-net.invariant.run (subst B same c.in_ok-next.ensures.step));
      board = c.in_ok-next.ensures.board ∙ same;
      regular = subst Q (sym c.in_ok-push.ensures.ok) (All-append (IsRippedOf b) told (ripped ∷ []) c.loop-net.invariant.regular (All-cons (IsRippedOf b) ripped [] known (All-nil (IsRippedOf b))));
    }
