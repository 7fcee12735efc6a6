use Rattle.std.proofs.Common.{◌≡◌, Bool, List, ◌∙◌, ap}
use Rattle.std.proofs.lemmas.Result.{IfOk-weaker}
use Rattle.zone_fill.specs.Marks.{marked}
use Rattle.zone_fill.specs.Poured.{AreFloodedParts}
use Rattle.zone_fill.proofs.pours.flooded_parts.Goals as goal

pub returns : goal.returns
returns c =
    let parts = c.args.parts.now in
    let marks = c.in_ok-marks.marks.items in
    IfOk-weaker c.marked_parts.result (λ boxes. boxes ≡ marked c.as_slice.result.now parts) (AreFloodedParts c.args.shapes.now c.args.net c.args.layer parts)
    (λ boxes e. record {
      seeds = c.in_ok-seeds.seeds.items;
      are_seeds = c.in_ok-seeds.ensures;
      marks = marks;
      flooded = c.in_ok-marks.ensures;
      is = e ∙ ap (λ (ms : List Bool). marked ms parts) c.as_slice.ensures.value;
    })
    c.marked_parts.ensures
