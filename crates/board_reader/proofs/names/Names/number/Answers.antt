use Rattle.std.proofs.Common.{◌∙◌, ap, unwrap_or}
use Rattle.std.specs.Str.{bytes_eq}
use Rattle.board_reader.specs.Names.{number_in}
use Rattle.board_reader.proofs.Naming.{position-map}
use Rattle.board_reader.proofs.names.Names.number.Goals as goal

pub returns-in-Some : goal.returns-in-Some
unfolding number_in
returns-in-Some c = ap (λ o. unwrap_or o 0) (c.in-Some.ensures.index ∙ position-map (λ v. v.items) (bytes_eq c.args.word.now) c.self.inside.index.keys) ∙ ap (λ ns. number_in ns c.args.word.now) c.self.view_is

pub returns-in-None : goal.returns-in-None
unfolding number_in
returns-in-None c = ap (λ o. unwrap_or o 0) (c.in-None.ensures.index ∙ position-map (λ v. v.items) (bytes_eq c.args.word.now) c.self.inside.index.keys) ∙ ap (λ ns. number_in ns c.args.word.now) c.self.view_is
