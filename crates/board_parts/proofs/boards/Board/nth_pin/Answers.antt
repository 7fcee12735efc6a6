use Rattle.std.proofs.Common.{◌≡◌, ◌==◌, ◌∙◌, Bool, List, true, filter, slice_get, Some, sym, subst, rules}
use Rattle.board_parts.specs.declared.parts.Pin.{Pin}
use Rattle.board_parts.proofs.Filtered.{slice_get-filter}
use Rattle.board_parts.proofs.boards.Board.nth_pin.Goals as goal

pub returns-then-before-i : goal.returns-then-before-i
returns-then-before-i c =
    let p : Pin → Bool = λ p. p.net.0 == c.args.n.0 in
    let pins = c.as_slice-pin-items.result.now in
    let here : (c.pin-item.result.net.0 == c.args.n.0) ≡ true = search rules in
    let found = slice_get-filter p pins c.loop-pin.pin-index c.pin-item.result c.loop-pin-test.true c.pin-item.is here in
    subst (λ (ps : List Pin). slice_get (filter p ps) c.args.i ≡ Some c.pin-item.result) c.as_slice-pin-items.ensures
    (subst (λ n. slice_get (filter p pins) n ≡ Some c.pin-item.result) (sym c.loop-pin.invariant.count ∙ c.if-before-i.true) found)
