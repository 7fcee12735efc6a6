use Rattle.std.proofs.Common.{◌+◌, ◌-◌, ◌++◌, ◌∙◌, ap}
use Rattle.std.specs.List.{flat_map, range_with_len}
use Rattle.board_text.specs.Spelled.{net_line, net_at}
use Rattle.board_reader.proofs.Ranges.{flat_map-next}
use Rattle.board_text.proofs.items.push_nets.Goals as goal

pub loop-net-preserved : goal.loop-net-preserved
loop-net-preserved c =
    let next = c.loop-net.net + 1 in
    let rest = flat_map (λ k. net_line c.args.board.now.parts (net_at k)) (range_with_len next (c.nets-nets.result - next)) in
    ap (λ l. l ++ rest) c.in_ok-push_net.ensures
    ∙ (flat_map-next (λ k. net_line c.args.board.now.parts (net_at k)) c.loop-net.net c.nets-nets.result c.loop-net.text c.loop-net-test.true ∙ c.loop-net.invariant)
