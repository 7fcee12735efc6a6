use Rattle.std.proofs.Common.{◌≡◌, List, ℕ, Some, None, IfNone, Contains, slice_get, string_bytes, subst, sym}
use Rattle.board_parts.proofs.NameTables.{found_at, not_found}
use Rattle.board_parts.proofs.name_index.NameIndex.find.Goals as goal

pub returns-in_err-i-clause-none : goal.returns-in_err-i-clause-none
returns-in_err-i-clause-none c =
    let absent = not_found string_bytes c.self.inside.names.keys c.args.name.now (sym c.in_err-i.ensures.found) in
    let none = subst (λ (ns : List (List ℕ)). Contains ns c.args.name.now → ⊥) c.self.view_is absent in
    elim c.from_residual.result as (λ r. IfNone r (Contains c.args.self.now c.args.name.now → ⊥)) [ None ↦ none | Some _ ↦ tt ]

pub returns-clause-some : goal.returns-clause-some
returns-clause-some c =
    subst (λ (ns : List (List ℕ)). slice_get ns c.in_ok-i.i ≡ Some c.args.name.now) c.self.view_is
    (found_at string_bytes c.self.inside.names.keys c.args.name.now c.in_ok-i.i (sym c.in_ok-i.ensures.index))
