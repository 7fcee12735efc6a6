use Rattle.std.proofs.Common.{List, length, refl, sym, ◌∙◌, ap, subst, arith}
use Rattle.board_parts.specs.declared.parts.BoardParts.{BoardParts}
use Rattle.route_law.specs.declared.replies.Routed.{Routed}
use Rattle.auto_route.specs.Tours.{IsTour}
use Rattle.auto_route.proofs.tours.play_rounds.Goals as goal

pub loop-number-init : goal.loop-number-init
loop-number-init g c = record {
  board = refl;
  tour = subst (λ (p : BoardParts). IsTour p c.in_ok-tour.tour) c.board.ensures c.in_ok-tour.ensures.tour;
  count = ap (λ (rs : List (List Routed)). length rs) c.in_ok-tour.ensures.none;
}

pub play_next-requires-clause-tour : goal.play_next-requires-clause-tour
play_next-requires-clause-tour g c =
    subst (λ (p : BoardParts). IsTour p c.loop-number.tour) (sym c.loop-number.invariant.board) c.loop-number.invariant.tour

pub play_next-requires-clause-few : goal.play_next-requires-clause-few
play_next-requires-clause-few g c = omega (arith, c.loop-number.invariant.count, c.requires.few, c.loop-number-test.true)

pub loop-number-preserved : goal.loop-number-preserved
loop-number-preserved g c =
    let loop = c.loop-number in
    let done = c.in_ok-session.ensures in
    record {
      board = done.board ∙ loop.invariant.board;
      tour = subst (λ (p : BoardParts). IsTour p c.play_next.new.tour) loop.invariant.board done.tour;
      count = omega (arith, done.count, loop.invariant.count);
    }
