use Rattle.std.proofs.Common.{◌≡◌, ◌∙◌, ap, false, [], ◌∷◌, ◌++◌}
use Rattle.std.specs.List.{list_any}
use Rattle.std.proofs.lemmas.Bool.{cond-false}
use Rattle.std.proofs.lemmas.List.{map-append}
use Rattle.std.specs.Str.{bytes_eq}
use Rattle.board_reader.specs.Names.{is_in}
use Rattle.board_reader.proofs.Naming.{list_any-map}
use Rattle.board_reader.proofs.names.Names.push.Goals as goal

pub returns-clause-ok : goal.returns-clause-ok
unfolding is_in
returns-clause-ok c =
    let k = c.in_ok-key.key in
    let keys = c.self.inside.index.keys in
    let word : k.items ≡ c.args.word.now = c.in_ok-key.ensures.items in
    let absent : list_any (λ v. bytes_eq k.items v.items) keys ≡ false
    = rw word (list_any-map (λ v. v.items) (bytes_eq c.args.word.now) keys ∙ (ap (λ ns. is_in ns c.args.word.now) c.self.view_is ∙ c.requires.fresh)) in
    let grown : c.insert.new.self.keys ≡ keys ++ k ∷ [] = c.in_ok-insert.ensures.keys ∙ cond-false _ _ _ absent in
    rw (grown, map-append, word) (ap (λ ns. ns ++ c.args.word.now ∷ []) c.self.view_is)
