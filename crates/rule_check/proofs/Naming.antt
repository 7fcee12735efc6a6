-- Violations among shapes of a board name layers and nets of the board.
use Rattle.std.proofs.Common.{Bool, true, false, List, [], ◌∷◌, ◌++◌, map, cond}
use Rattle.std.specs.List.{All, AllByRecursion, filter}
use Rattle.std.proofs.lemmas.List.Elements.{All-from_recursion, recursion_from_All}
use Rattle.board_parts.specs.declared.parts.BoardParts.{BoardParts}
use Rattle.board_model.specs.declared.shapes.Shape.{Shape}
use Rattle.board_model.specs.declared.shapes.Violation.{Violation}
use Rattle.board_model.specs.Known.{IsKnown}
use Rattle.board_model.specs.Spacing.{keeps_outline, breaks_gap}
use Rattle.board_model.specs.Violations.{owned, outline_of, close_of, close_pair, violations_of}
use Rattle.rule_check.specs.Known.{NamesKnown}

each-append : {X : Type 0} (P : X → Type 0) (xs ys : List X) → AllByRecursion P xs → AllByRecursion P ys → AllByRecursion P (xs ++ ys)
each-append P [] ys a b = b
each-append P (x ∷ xs) ys a b = (a.0, each-append P xs ys a.1 b)

of_outline : (b : BoardParts) (s : Shape) → IsKnown b s → AllByRecursion (NamesKnown b) (outline_of b s)
of_outline b s h = kept (keeps_outline b s.area)
  where
    kept : (t : Bool) → AllByRecursion (NamesKnown b) (cond t [] (Violation.Outline s.layer (owned s) ∷ []))
    kept true = tt
    kept false = ((h.layer, h.owner), tt)

-- the pairs of a shape with the later ones that pass a test
of_pairs : (b : BoardParts) (p : Shape → Bool) (s : Shape) (later : List Shape) → IsKnown b s → AllByRecursion (IsKnown b) later → AllByRecursion (NamesKnown b) (map (close_pair s) (filter p later))
of_pairs b p s [] h k = tt
of_pairs b p s (t ∷ later) h k = kept (p t) (of_pairs b p s later h k.1)
  where
    kept : (c : Bool) → AllByRecursion (NamesKnown b) (map (close_pair s) (filter p later)) → AllByRecursion (NamesKnown b) (map (close_pair s) (cond c (t ∷ filter p later) (filter p later)))
    kept true rest = ((h.layer, h.owner, k.0.owner), rest)
    kept false rest = rest

of_shapes : (b : BoardParts) (shapes : List Shape) → AllByRecursion (IsKnown b) shapes → AllByRecursion (NamesKnown b) (violations_of b shapes)
of_shapes b [] h = tt
of_shapes b (s ∷ later) h =
    each-append (NamesKnown b) (outline_of b s ++ close_of b s later) (violations_of b later)
    (each-append (NamesKnown b) (outline_of b s) (close_of b s later) (of_outline b s h.0) (of_pairs b (breaks_gap b s) s later h.0 h.1))
    (of_shapes b later h.1)

pub violations_name_known : (b : BoardParts) (shapes : List Shape) → All (IsKnown b) shapes → All (NamesKnown b) (violations_of b shapes)
violations_name_known b shapes h = All-from_recursion (NamesKnown b) (violations_of b shapes) (of_shapes b shapes (recursion_from_All (IsKnown b) shapes h))
