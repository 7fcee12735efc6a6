-- The sort is by the lowest row and then by the leftmost column.
use Rattle.std.proofs.Common.{sym, subst, rules}
use Rattle.std.proofs.lemmas.Fn.{always_returns_same}
use Rattle.smallvec.proofs.SmallVecLemmas.{items-with_items}
use Rattle.strip_merge.proofs.Sorting.{place_of, sorted_none_back}
use Rattle.strip_merge.proofs.Under.{NoneBack}
use Rattle.strip_merge.proofs.orders.put_in_order.Goals as goal

pub returns-clause-in_order : goal.returns-clause-in_order
returns-clause-in_order c =
    let after = c.sort_unstable_by_key.new.self in
    subst NoneBack (sym (items-with_items c.strips.inside.items after (search rules)))
    (sorted_none_back after (c.sort_unstable_by_key.ensures.sorted place_of (always_returns_same _ _ _ (λ a r q k. search rules))))
