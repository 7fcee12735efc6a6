use Rattle.std.proofs.Common.{◌<◌, ◌≡◌, List, ℕ, [], length, map, get_or, string_bytes, Contains, sym, subst, ◌∙◌, arith}
use Rattle.std.proofs.lemmas.List.{length-map}
use Rattle.call_words.proofs.Naming.{bytes_at}
use Rattle.call_words.proofs.plans.nets_of.Goals as goal

pub net_of-requires : goal.net_of-requires
net_of-requires c =
    let names = c.args.names.now in
    let i = c.loop-name.name-index in
    let inside : i < length (map string_bytes names) = omega (arith, length-map names string_bytes, c.loop-name-test.true) in
    let at : get_or (map string_bytes names) i [] ≡ string_bytes c.name-item.result = bytes_at string_bytes names i c.name-item.result [] c.loop-name-test.true c.name-item.is in
    let P : List ℕ → Type 0 = Contains c.args.board.now.parts.net_names in
    subst P (at ∙ sym c.as_str.ensures.value) (c.requires i [] inside)
