use Rattle.std.proofs.Common.{◌≡◌, ◌≢◌, List, ℕ, ◌∷◌, map, string_bytes, Contains, sym, ap, subst, ◌∙◌}
use Rattle.std.specs.Prelude.{AllPairs}
use Rattle.std.proofs.lemmas.List.Elements.{All-tail}
use Rattle.board_parts.specs.Lookup.{net_name}
use Rattle.call_words.specs.Asked.{Through}
use Rattle.call_words.specs.Trials.{IsSoundSequel}
use Rattle.call_words.proofs.Naming.{apart-by_names}
use Rattle.call_words.proofs.plans.sound_plan.Goals as goal

pub nets_of-requires : goal.nets_of-requires
nets_of-requires c =
    let P : List ℕ → Type 0 = Contains c.args.board.now.parts.net_names in
    let sound : IsSoundSequel c.args.board.now.parts (Through c.in-Through.net.now (map string_bytes c.in-Through.others.now)) = rw c.in-Through.is at c.requires.sound in
    All-tail P c.in-Through.net.now (map string_bytes c.in-Through.others.now) sound.nets

pub returns-in_ok-nets_of-in-Through-clause-known : goal.returns-in_ok-nets_of-in-Through-clause-known
returns-in_ok-nets_of-in-Through-clause-known c =
    let b = c.args.board.now.parts in
    let n = c.net_of.result in
    let ids = c.in_ok-nets_of-in-Through.field-0 in
    let sound : IsSoundSequel b (Through c.in-Through.net.now (map string_bytes c.in-Through.others.now)) = rw c.in-Through.is at c.requires.sound in
    let named : map (net_name b) (n ∷ ids) ≡ c.in-Through.net.now ∷ map string_bytes c.in-Through.others.now
    = ap (λ (x : List ℕ). x ∷ map (net_name b) ids) c.net_of.ensures.name ∙ ap (λ (xs : List (List ℕ)). c.in-Through.net.now ∷ xs) c.in_ok-nets_of-in-Through.ensures.names in
    record {
      net = c.net_of.ensures.known;
      others = c.in_ok-nets_of-in-Through.ensures.known;
      apart = apart-by_names (net_name b) (n ∷ ids) (subst (AllPairs (λ x y. x ≢ y)) (sym named) sound.once);
    }
