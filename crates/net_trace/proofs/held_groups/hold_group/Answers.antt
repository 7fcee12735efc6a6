use Rattle.std.proofs.Common.{ℕ, ◌+◌, List, get_or, ap, subst, sym, refl, ◌∙◌, arith}
use Rattle.std.specs.Prelude.{Contains}
use Rattle.std.proofs.lemmas.Bool.{false≢true}
use Rattle.std.proofs.lemmas.Result.{on_ok_weaker}
use Rattle.geo_rect.specs.declared.ids.NetId.{NetId}
use Rattle.net_trace.specs.declared.copper.Piece.{Piece}
use Rattle.net_trace.specs.Listing.{IsListed}
use Rattle.net_trace.specs.Report.{IsListOf, HasPiece, Differ}
use Rattle.net_trace.proofs.Grouped.{held_skip, held_next, net_read, of_net_read, listed_at, listed_is}
use Rattle.net_trace.proofs.held_groups.hold_group.Goals as goal

pub returns-then-pieces-number : goal.returns-then-pieces-number
returns-then-pieces-number c =
    let pieces = c.args.pieces.now in
    held_skip c.args.numbers.now pieces c.args.net c.args.number c.args.held.now
    (λ f o g. absurd (c.if-pieces-number.true (ap (λ (p : Piece). p.net.0) (sym c.index-pieces-number.is) ∙ ap (λ (n : NetId). n.0) (net_read pieces c.args.number c.index-pieces-number.result c.index-pieces-number.is c.args.net o)))) c.requires.held

pub returns-then-has_number : goal.returns-then-has_number
returns-then-has_number c =
    let numbers = c.args.numbers.now in
    let inside = subst (λ (xs : List ℕ). Contains xs (get_or numbers c.args.number 0)) c.as_slice.ensures (c.if-has_number.ensures.0 refl) in
    held_skip numbers c.args.pieces.now c.args.net c.args.number c.args.held.now (λ f o g. subst (Contains c.args.held.now) (listed_is numbers c.args.number f g) inside) c.requires.held

pub returns : goal.returns
returns c =
    let numbers = c.args.numbers.now in
    let pieces = c.args.pieces.now in
    let held = c.args.held.now in
    let n = c.args.number in
    let group = get_or numbers n 0 in
    let o = of_net_read pieces n c.index-pieces-number.result c.requires.number c.index-pieces-number.is c.args.net (ap (λ (p : Piece). p.net.0) c.index-pieces-number.is ∙ c.if-pieces-number.false) in
    let absent = λ (h : Contains held group). false≢true (c.if-has_number.ensures.1 (subst (λ (xs : List ℕ). Contains xs group) (sym c.as_slice.ensures) h)) in
    on_ok_weaker c.push.result
    (λ e. subst (IsListOf Differ (HasPiece (n + 1) pieces (IsListed numbers) c.args.net)) (sym e) (held_next numbers pieces c.args.net n group held o (listed_at numbers n (omega (arith, c.requires.number, c.requires.each))) absent c.requires.held))
    c.push.ensures.ok
