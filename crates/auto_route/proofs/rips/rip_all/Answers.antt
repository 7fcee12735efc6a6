use Rattle.std.proofs.Common.{length, refl, ◌∙◌, ap, arith}
use Rattle.board_parts.specs.declared.parts.BoardParts.{BoardParts}
use Rattle.auto_route.proofs.Ripping.{all_ripped, rip_more}
use Rattle.auto_route.proofs.rips.rip_all.Goals as goal

pub loop-number-preserved : goal.loop-number-preserved
loop-number-preserved g c =
    let loop = c.loop-number in
    let nets = c.nets-nets.ensures ∙ ap (λ (b : BoardParts). length b.net_names) c.board.ensures in
    record {
      board = c.in_ok-session.ensures.board ∙ loop.invariant.board;
      lists = rip_more loop.number (record { 0 = loop.number }) c.args.s.lists loop.session.lists c.in_ok-session.session.lists (omega (arith, nets, c.made-made.ensures.state.nets)) refl loop.invariant.lists c.in_ok-session.ensures.lists;
    }

pub returns-clause-nothing : goal.returns-clause-nothing
returns-clause-nothing g c =
    let loop = c.loop-number in
    let nets = c.nets-nets.ensures ∙ ap (λ (b : BoardParts). length b.net_names) c.board.ensures in
    all_ripped c.args.s.parts loop.number c.args.s.lists loop.session.lists (omega (arith, nets)) c.made-made.ensures.state.nets loop.invariant.lists
