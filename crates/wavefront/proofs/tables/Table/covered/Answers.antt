use Rattle.std.proofs.Common.{ℕ, ◌≡◌, ◌<◌, ap, refl, sym, subst, ◌∙◌, List, length, get_or, Option, arith}
use Rattle.std.specs.BTreeMap.{get}
use Rattle.route_law.specs.declared.certs.Entry.{Entry}
use Rattle.route_law.specs.Moves.{Arrival}
use Rattle.route_law.specs.Covers.{IsReachedBefore}
use Rattle.wavefront.specs.Chains.{Corner, by_corner, corner, IsLatest}
use Rattle.wavefront.specs.Reached.{ComesBefore}
use Rattle.wavefront.proofs.Coming.{reached_at, none_reached}
use Rattle.wavefront.proofs.Chained.{corner_of}
use Rattle.wavefront.proofs.Left.{IsLeft, IsLeftAt, NoneComes, left_count, left_first, left_next, left_less, link_at}
use Rattle.wavefront.proofs.tables.Table.covered.Goals as goal

pub loop-next-init : goal.loop-next-init
loop-next-init c =
    let a : Arrival = record { layer = c.args.layer; strip = c.args.strip; front = c.args.front; cost = c.args.cost } in
    let t = c.self.inside in
    let q = corner c.args.layer c.args.strip in
    let P : Option ℕ → Type 0 = λ o. IsLatest q t.settled.items (length t.settled.items) o in
    let found : c.copied-next.result ≡ get by_corner t.latest q = c.copied-next.ensures ∙ (c.get.ensures.value ∙ ap (λ (z : Corner). get by_corner t.latest z) c.corner.ensures) in
    left_first a t.settled.items c.copied-next.result (subst P (sym found) (c.self.invariant.1.last q))

pub returns-then-comes_before : goal.returns-then-comes_before
returns-then-comes_before c =
    let a : Arrival = record { layer = c.args.layer; strip = c.args.strip; front = c.args.front; cost = c.args.cost } in
    let xs = c.self.inside.settled.items in
    let i = c.in-Some.number in
    let d = c.index.result.now in
    let left : IsLeftAt a xs i = subst (λ (o : Option ℕ). IsLeft a xs o) c.in-Some.is c.loop-next.invariant in
    let here : ComesBefore (get_or xs i d) a = subst (λ (e : Entry). ComesBefore e a) c.index.ensures (c.comes_before.ensures.0 c.if-comes_before.true) in
    (λ t. subst (λ (es : List Entry). IsReachedBefore es a) c.self.view_is (reached_at xs i d a left.inside here), λ h. refl)

pub loop-next-smaller : goal.loop-next-smaller
loop-next-smaller c =
    let a : Arrival = record { layer = c.args.layer; strip = c.args.strip; front = c.args.front; cost = c.args.cost } in
    let xs = c.self.inside.settled.items in
    let i = c.in-Some.number in
    let d = c.index.result.now in
    let o = c.index-next.result.now in
    let left : IsLeftAt a xs i = subst (λ (p : Option ℕ). IsLeft a xs p) c.in-Some.is c.loop-next.invariant in
    let link = link_at xs c.self.inside.earlier.items c.self.inside.latest i d o c.self.invariant.1 left.inside c.index-next.ensures in
    subst (λ (p : Option ℕ). left_count o < left_count p) (sym c.in-Some.is) (left_less (corner_of (get_or xs i d)) xs i o link)

pub loop-next-preserved : goal.loop-next-preserved
loop-next-preserved c =
    let a : Arrival = record { layer = c.args.layer; strip = c.args.strip; front = c.args.front; cost = c.args.cost } in
    let xs = c.self.inside.settled.items in
    let i = c.in-Some.number in
    let d = c.index.result.now in
    let o = c.index-next.result.now in
    let left : IsLeftAt a xs i = subst (λ (p : Option ℕ). IsLeft a xs p) c.in-Some.is c.loop-next.invariant in
    let link = link_at xs c.self.inside.earlier.items c.self.inside.latest i d o c.self.invariant.1 left.inside c.index-next.ensures in
    let lacks : ComesBefore d a → ⊥ = λ h. let came = c.comes_before.ensures.1 h in let not = c.if-comes_before.false in cc in
    left_next a xs i o d left (subst (λ (e : Entry). ComesBefore e a → ⊥) c.index.ensures lacks) link

pub returns : goal.returns
returns c =
    let a : Arrival = record { layer = c.args.layer; strip = c.args.strip; front = c.args.front; cost = c.args.cost } in
    let xs = c.self.inside.settled.items in
    let left : NoneComes a xs 0 (length xs) = subst (λ (o : Option ℕ). IsLeft a xs o) c.in_default.is c.loop-next.invariant in
    let none : IsReachedBefore xs a → ⊥ = none_reached xs a (λ k d l. left k d (omega arith) l) in
    let same : IsReachedBefore c.args.self.now a → ⊥ = subst (λ (es : List Entry). IsReachedBefore es a → ⊥) c.self.view_is none in
    (λ t. cc, λ h. absurd (same h))
