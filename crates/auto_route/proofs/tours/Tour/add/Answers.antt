use Rattle.std.proofs.Common.{List, refl, sym, ◌∙◌, ap, subst}
use Rattle.geo_rect.specs.declared.ids.NetId.{NetId}
use Rattle.board_model.specs.declared.made.Conn.{Conn}
use Rattle.demo_text.specs.Bounds.{AreCounted}
use Rattle.route_law.specs.declared.replies.Routed.{Routed}
use Rattle.auto_route.specs.declared.ranks.Rank.{Rank}
use Rattle.auto_route.specs.declared.tours.Tour.{Tour}
use Rattle.auto_route.specs.Best.{rank_of}
use Rattle.auto_route.specs.Rounds.{next_order}
use Rattle.auto_route.specs.Tours.{IsRanked}
use Rattle.auto_route.proofs.Touring.{round_counted, tour_next}
use Rattle.auto_route.proofs.tours.Tour.add.Goals as goal

pub rank_of-rank-requires-clause-counted : goal.rank_of-rank-requires-clause-counted
rank_of-rank-requires-clause-counted c =
    subst (λ (rs : List Routed). AreCounted rs) (sym c.as_slice.ensures)
    (round_counted c.args.board.now.parts c.args.self.now.order c.args.round c.args.board.now.kept c.requires.tour.order c.requires.round)

pub returns-clause-tour : goal.returns-clause-tour
returns-clause-tour c =
    let b = c.args.board.now.parts in
    let old : Tour = c.args.self.now in
    let mid : Tour = c.rank_next.new.self in
    let new : Tour = record { rounds = c.push.new.self; order = c.in_ok-next.next; best = mid.best; rank = mid.rank } in
    let round = c.args.round in
    let rank = c.rank_of-rank.ensures ∙ ap (λ (rs : List Routed). rank_of b rs) c.as_slice.ensures in
    let ranked = subst (λ (r : Rank). IsRanked old r mid) rank c.rank_next.ensures in
    let order = c.in_ok-next.ensures ∙ ap (λ (ns : List NetId). next_order b c.args.made.now.lists ns) c.as_slice-2.ensures ∙ ap (λ (lists : List (List Conn)). next_order b lists old.order) c.requires.made in
    tour_next b old mid new round c.requires.tour ranked c.in_ok-push.ensures.ok order refl refl c.requires.round c.requires.regular
