use Rattle.std.proofs.Common.{ℕ, ◌≡◌, ◌<◌, false, true, length, refl, arith}
use Rattle.std.proofs.lemmas.Option.{slice_get_read}
use Rattle.geo_rect.specs.declared.ids.Spot.{Spot}
use Rattle.walk_check.specs.Clear.{IsIn}
use Rattle.walk_check.proofs.Boxes.{found_node, no_node}
use Rattle.walk_check.proofs.Items.{items_more}
use Rattle.walk_check.proofs.nodes.has_node.Goals as goal

pub returns-then-is_in : goal.returns-then-is_in
returns-then-is_in c =
    let l : c.loop-spot.spot-index < length c.args.boxes.now = omega arith in
    let here : IsIn c.spot-item.result c.args.v = c.is_in.ensures.0 c.if-is_in.true in
    (λ h. found_node c.args.boxes.now c.args.v c.loop-spot.spot-index c.spot-item.result l c.spot-item.is here, λ h. refl)

pub loop-spot-preserved : goal.loop-spot-preserved
loop-spot-preserved c =
    let l : c.loop-spot.spot-index < length c.args.boxes.now = omega arith in
    let none : IsIn c.spot-item.result c.args.v → ⊥ = λ h. let k : c.is_in.result ≡ true = c.is_in.ensures.1 h in let n = c.if-is_in.false in cc in
    items_more (λ (m : ℕ) (box : Spot). IsIn box c.args.v → ⊥) c.args.boxes.now c.loop-spot.spot-index c.spot-item.result
    (slice_get_read c.args.boxes.now (length c.args.boxes.now) c.loop-spot.spot-index c.spot-item.result refl l c.spot-item.is) c.loop-spot.invariant none

pub returns : goal.returns
returns c = (
  λ h. let k : false ≡ true = h in cc,
  λ h. absurd (no_node c.args.boxes.now c.args.v (λ m box l e. c.loop-spot.invariant m box (omega arith) e) h),
)
