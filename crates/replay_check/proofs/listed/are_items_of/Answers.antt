use Rattle.std.proofs.Common.{ℕ, ◌≡◌, List, length, ap, refl, sym, ◌∙◌, arith}
use Rattle.std.proofs.lemmas.List.{take_all}
use Rattle.board_model.specs.declared.made.Conn.{Conn}
use Rattle.route_law.specs.declared.replies.Item.{Item}
use Rattle.route_law.specs.Steps.{items_from}
use Rattle.replay_check.proofs.Listing.{not_so, is_so, not_true, length-items_from, items_more, item_wrong}
use Rattle.replay_check.proofs.listed.are_items_of.Goals as goal

pub returns-then-items-conns : goal.returns-then-items-conns
returns-then-items-conns c =
    let F : List Item → ℕ = λ xs. length xs in
    not_so _ (λ e. c.if-items-conns.true (ap F e ∙ length-items_from 1 c.args.conns.now))

pub returns-then-not-is_item_of : goal.returns-then-not-is_item_of
returns-then-not-is_item_of c =
    not_so _
    (item_wrong c.args.items.now c.args.conns.now c.loop-i.i c.index-items-i.result c.index-conns-i.result c.loop-i-test.true
    (omega (arith, c.loop-i-test.true, c.if-items-conns.false)) (sym c.index-items-i.is) (sym c.index-conns-i.is) (not_true _ c.if-not-is_item_of.ensures))

pub loop-i-preserved : goal.loop-i-preserved
loop-i-preserved c =
    items_more c.args.items.now c.args.conns.now c.loop-i.i c.index-items-i.result c.index-conns-i.result c.loop-i-test.true
    (omega (arith, c.loop-i-test.true, c.if-items-conns.false)) (sym c.index-items-i.is) (sym c.index-conns-i.is) c.loop-i.invariant (c.if-not-is_item_of.ensures.0 refl)

pub returns : goal.returns
returns c =
    let F : List Conn → List Item = λ xs. items_from 1 xs in
    let more : length c.args.conns.now ≡ length c.args.items.now = sym c.if-items-conns.false in
    is_so _
    (sym (take_all c.loop-i.i c.args.items.now c.loop-i-test.false) ∙ c.loop-i.invariant ∙ ap F (take_all c.loop-i.i c.args.conns.now (omega (arith, c.loop-i-test.false, more))))
