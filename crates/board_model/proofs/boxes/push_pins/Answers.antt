use Rattle.std.proofs.Common.{◌==◌, ◌++◌, ◌∙◌, Bool, List, filter, take, ap, sym}
use Rattle.std.specs.List.{flat_map}
use Rattle.board_model.specs.Boxes.{pin_boxes}
use Rattle.board_parts.specs.declared.parts.Pin.{Pin}
use Rattle.board_parts.proofs.Filtered.{take-filter}
use Rattle.board_model.proofs.boxes.push_pins.Goals as goal

pub returns-then-before-count : goal.returns-then-before-count
returns-then-before-count c =
    let p : Pin → Bool = λ p. p.net.0 == c.args.net.0 in
    let pins = c.pins-pin-items.result.now in
    let first = take-filter p pins c.loop-pin.pin-index c.args.count (sym c.if-before-count.true ∙ c.loop-pin.invariant.stand) in
    c.loop-pin.invariant.added ∙ ap (λ ps. c.args.boxes.now ++ flat_map pin_boxes ps) (sym first) ∙ ap (λ (ps : List Pin). c.args.boxes.now ++ flat_map pin_boxes (take c.args.count (filter p ps))) c.pins-pin-items.ensures
