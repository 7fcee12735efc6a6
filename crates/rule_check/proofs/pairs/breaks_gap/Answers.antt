use Rattle.std.proofs.Common.{◌≡◌, ◌==◌, Bool, true, false, not, ◌&&◌, ap, sym, ◌∙◌, arith, eq-eqb}
use Rattle.std.proofs.lemmas.Int.{ints}
use Rattle.geo_rect.specs.Tests.{are_too_close}
use Rattle.board_model.specs.Spacing.{is_same_owner}
use Rattle.rule_check.proofs.pairs.breaks_gap.Goals as goal

-- the last test alone decides, where the others say that a gap is kept
last_test : (a b c r : Bool) → a ≡ true → b ≡ false → r ≡ c → r ≡ ((a && not b) && c)
last_test a b c r p q e = e ∙ ap (λ x. (x && true) && c) (sym p) ∙ ap (λ x. (a && not x) && c) (sym q)

pub returns : goal.returns
returns c =
    let b = c.args.board.now.parts in
    let s = c.args.s in
    let t = c.args.t in
    let layer : (s.layer.0 == t.layer.0) ≡ true = eq-eqb s.layer.0 t.layer.0 (omega arith) in
    let owners : is_same_owner s.owner t.owner ≡ false = sym c.same_owner.ensures ∙ c.if-same_owner.false in
    last_test _ _ _ c.too_close.result layer owners
    (c.too_close.ensures.test ∙ ap (are_too_close s.area t.area) (omega (arith, ints, c.gap_between.ensures.value)))
