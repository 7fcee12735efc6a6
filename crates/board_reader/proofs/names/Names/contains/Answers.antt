use Rattle.std.proofs.Common.{◌∙◌, ap}
use Rattle.std.specs.Str.{bytes_eq}
use Rattle.board_reader.specs.Names.{is_in}
use Rattle.board_reader.proofs.Naming.{list_any-map}
use Rattle.board_reader.proofs.names.Names.contains.Goals as goal

pub returns : goal.returns
unfolding is_in
returns c = c.contains.ensures ∙ (list_any-map (λ v. v.items) (bytes_eq c.args.word.now) c.self.inside.index.keys ∙ ap (λ ns. is_in ns c.args.word.now) c.self.view_is)
