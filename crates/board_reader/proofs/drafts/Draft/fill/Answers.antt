use Rattle.std.proofs.Common.{◌∙◌, ap}
use Rattle.board_reader.specs.Filling.{with_tables, with_lists}
use Rattle.board_reader.proofs.SameParts.{same-parts}
use Rattle.board_reader.proofs.drafts.Draft.fill.Goals as goal

pub returns-clause-parts : goal.returns-clause-parts
returns-clause-parts c =
    let d = c.args.self.now in
    c.put_lists.ensures.lists
    ∙ (ap (λ e. with_lists c.put_tables.new.parts e) c.in_ok-put_tables.ensures.rest
    ∙ (ap (λ b. with_lists b d) (c.in_ok-put_tables.ensures.tables ∙ ap (λ b. with_tables b d) c.in_ok-put_names.ensures)
    ∙ same-parts d _ c.requires.empty))
