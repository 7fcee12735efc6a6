use Rattle.std.proofs.Common.{◌≡◌, List, ℕ, [], ◌∷◌, string_bytes, sym, ap, ◌∙◌}
use Rattle.std.specs.Prelude.{codes}
use Rattle.std.proofs.lemmas.Bool.Decides.{Decides-eqb}
use Rattle.std.proofs.lemmas.Slice.Eq.{slice_eq-Decides}
use Rattle.call_words.proofs.Naming.{one_word}
use Rattle.call_words.proofs.parts.quiet_of.Goals as goal

pub returns-in-len1 : goal.returns-in-len1
returns-in-len1 c =
    let one = one_word string_bytes c.args.words.now c.flag-item.result c.in-len1.len_at_least c.in-len1.len_below c.flag-item.is in
    let is_flag : string_bytes c.flag-item.result ≡ codes "--quiet" = sym c.as_str.ensures.value ∙ (slice_eq-Decides Decides-eqb _ _ _ c.eq.ensures).0 c.if-eq.true in
    sym (one ∙ ap (λ (w : List ℕ). w ∷ []) is_flag)
