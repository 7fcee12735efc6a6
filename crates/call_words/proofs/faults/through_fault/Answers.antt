use Rattle.std.proofs.Common.{◌≢◌, List, ℕ, map, string_bytes, Contains, refl}
use Rattle.std.proofs.lemmas.Bool.{false≢true}
use Rattle.std.proofs.lemmas.List.Elements.{All-cons, All-tail}
use Rattle.std.proofs.lemmas.List.Kept.{AllPairs-cons}
use Rattle.call_words.proofs.Naming.{first_again, apart-tail, all_differ}
use Rattle.call_words.proofs.faults.through_fault.Goals as goal

pub returns-then-not-has_nets : goal.returns-then-not-has_nets
returns-then-not-has_nets c =
    let P : List ℕ → Type 0 = Contains c.args.board.now.parts.net_names in
    λ h. false≢true (c.if-not-has_nets.ensures.1 (All-tail P c.args.net.now (map string_bytes c.args.others.now) h))

pub returns-then-has_word : goal.returns-then-has_word
returns-then-has_word c =
    let P : List ℕ → Type 0 = Contains c.args.board.now.parts.net_names in
    let others : List (List ℕ) = map string_bytes c.args.others.now in (
      All-cons P c.args.net.now others (c.if-not-has_net.ensures.0 refl) (c.if-not-has_nets.ensures.0 refl),
      first_again c.args.net.now others (c.if-has_word.ensures.0 refl),
    )

pub returns-then-not-are_apart : goal.returns-then-not-are_apart
returns-then-not-are_apart c =
    let P : List ℕ → Type 0 = Contains c.args.board.now.parts.net_names in
    let others : List (List ℕ) = map string_bytes c.args.others.now in (
      All-cons P c.args.net.now others (c.if-not-has_net.ensures.0 refl) (c.if-not-has_nets.ensures.0 refl),
      λ h. false≢true (c.if-not-are_apart.ensures.1 (apart-tail c.args.net.now others h)),
    )

pub returns : goal.returns
returns c =
    let P : List ℕ → Type 0 = Contains c.args.board.now.parts.net_names in
    let others : List (List ℕ) = map string_bytes c.args.others.now in
    record {
      nets = All-cons P c.args.net.now others (c.if-not-has_net.ensures.0 refl) (c.if-not-has_nets.ensures.0 refl);
      once = AllPairs-cons (λ a b. a ≢ b) c.args.net.now others (all_differ c.args.net.now others (λ h. false≢true (c.if-has_word.ensures.1 h))) (c.if-not-are_apart.ensures.0 refl);
    }
