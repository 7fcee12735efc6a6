use Rattle.std.proofs.Common.{◌≡◌, ◌∙◌, ap, sym, get_or, map, [], ℕ, ◌<◌, length, List, subst}
use Rattle.std.specs.Prelude.{slice_index}
use Rattle.std.proofs.lemmas.List.{length-map, get_or-map}
use Rattle.board_reader.proofs.Ascii.{ascii-bytes}
use Rattle.board_reader.proofs.names.put_texts.Goals as goal

pub text_of-requires : goal.text_of-requires
text_of-requires c = λ i.
    let k = c.loop-word.word-index in
    let inside : k < length (map (λ v. v.items) c.args.words.now) = simp length-map c.loop-word-test.true in
    let ascii = ascii-bytes _ (c.requires k [] inside).word i in
    let same : get_or (map (λ v. v.items) c.args.words.now) k [] ≡ c.deref.result.now =
    get_or-map (λ v. v.items) c.args.words.now k c.word-item.result [] c.loop-word-test.true ∙ (ap (λ v. v.items) (sym c.word-item.is) ∙ sym c.deref.ensures.value) in
    let P : List ℕ → Type 0 = λ w. slice_index w i < 128 in
    subst P same ascii
