use Rattle.std.proofs.Common.{◌++◌, ◌∙◌, ap, subst, sym, List, ℕ}
use Rattle.gerber_out.specs.Layers.{areas_text, wanted}
use Rattle.gerber_out.specs.Reading.{IsRead}
use Rattle.gerber_out.proofs.Layering.{layer_read}
use Rattle.gerber_out.proofs.writing.layer_text.Goals as goal

pub returns-clause-read : goal.returns-clause-read
returns-clause-read c =
    let areas = wanted c.args.layer c.args.shapes.now in
    let text = c.in_ok-push_layer.ensures ∙ ap (λ (t : List ℕ). t ++ areas_text areas) c.new-text.ensures in
    subst (λ (t : List ℕ). IsRead t areas) (sym text) (layer_read c.args.layer c.args.shapes.now c.requires.shapes)
