use Rattle.std.proofs.Common.{◌+◌, List, [], ◌∷◌, All, take, sym, ◌∙◌, subst, arith}
use Rattle.std.proofs.lemmas.List.Elements.{All-append, All-cons, All-nil}
use Rattle.board_model.specs.declared.made.Conn.{Conn}
use Rattle.board_parts.specs.declared.parts.BoardParts.{BoardParts}
use Rattle.yield_route.specs.declared.told.Back.{Back}
use Rattle.yield_route.specs.Named.{IsBackOf}
use Rattle.yield_route.specs.Yielding.{AreBack, IsBack}
use Rattle.yield_route.proofs.Trying.{back_more}
use Rattle.yield_route.proofs.tries.give_back.Goals as goal

pub loop-aside-preserved : goal.loop-aside-preserved
loop-aside-preserved g c =
    let b = c.args.first.parts in
    let old = c.args.first.lists in
    let aside = c.aside-item.result in
    let mid = c.loop-aside.s.lists in
    let new = c.in_ok-next.next.lists in
    let told = c.loop-aside.told in
    let back = c.in_ok-next.back in
    let same = c.loop-aside.invariant.board in
    let B : BoardParts → Type 0 = λ p. IsBack p mid aside.net aside.conns back new in
    let C : List Conn → Type 0 = λ cs. IsBack c.loop-aside.s.parts mid aside.net cs back new in
    let one : IsBack b mid aside.net aside.conns back new = subst B same (subst C c.as_slice.ensures c.in_ok-next.ensures.back) in
    let R : BoardParts → Type 0 = λ p. IsBackOf p back in
    let regular : IsBackOf b back = subst R same c.in_ok-next.ensures.regular in
    let A : List Back → Type 0 = λ ks. AreBack b old (take (c.loop-aside.aside-index + 1) c.args.asides.now) ks new in
    let Q : List Back → Type 0 = λ ks. All (IsBackOf b) ks in
    record {
      back = subst A (sym c.in_ok-push.ensures.ok) (back_more b old mid new c.args.asides.now c.loop-aside.aside-index aside told back (omega arith) c.aside-item.is c.loop-aside.invariant.back one);
      board = c.in_ok-next.ensures.board ∙ same;
      regular = subst Q (sym c.in_ok-push.ensures.ok) (All-append (IsBackOf b) told (back ∷ []) c.loop-aside.invariant.regular (All-cons (IsBackOf b) back [] regular (All-nil (IsBackOf b))));
    }
