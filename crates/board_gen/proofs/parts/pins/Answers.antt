use Rattle.std.proofs.Common.{◌+◌, ◌-◌, ◌++◌, ◌∙◌, ap}
use Rattle.std.specs.List.{range_with_len, flat_map}
use Rattle.board_gen.specs.Generated.{pins_of}
use Rattle.board_reader.proofs.Ranges.{flat_map-next}
use Rattle.board_gen.proofs.parts.pins.Goals as goal

pub loop-i-preserved : goal.loop-i-preserved
loop-i-preserved c =
    let next = c.loop-i.i + 1 in
    let rest = flat_map (pins_of c.args.n) (range_with_len next (c.args.n + 1 - next)) in
    ap (λ l. l ++ rest) c.in_ok-push_pins.ensures
    ∙ (flat_map-next (pins_of c.args.n) c.loop-i.i (c.args.n + 1) c.loop-i.pins c.loop-i-test.true ∙ c.loop-i.invariant)
