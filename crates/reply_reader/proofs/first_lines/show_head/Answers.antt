use Rattle.std.proofs.Common.{◌≡◌, ◌<◌, ◌^◌, sym, ap, ◌∙◌, arith}
use Rattle.route_law.specs.Routing.{conns_needed}
use Rattle.reply_reader.proofs.Alike.{same_net}
use Rattle.reply_reader.proofs.Decimals.{same_decimal}
use Rattle.reply_reader.proofs.first_lines.show_head.Goals as goal

pub returns-then-needed-conns_needed-clause-none : goal.returns-then-needed-conns_needed-clause-none
returns-then-needed-conns_needed-clause-none c = λ n needed conns at.
    let b = c.args.board.now.parts in
    let net = c.in_ok-net.ensures.some in
    let said = c.in_ok-needed.ensures.some in
    let few : needed < 10 ^ 64 = let h = at.all.1 in omega arith in
    let few_too : c.in_ok-needed.needed < 10 ^ 64 = omega (arith, said.1) in
    let same : n ≡ c.in_ok-net.net = same_net b c.args.board.now.kept n c.in_ok-net.net at.net.known net.0 (at.net.net ∙ sym net.1) in
    let number : needed ≡ c.in_ok-needed.needed = same_decimal needed c.in_ok-needed.needed few few_too (at.all.0 ∙ sym said.0) in
    let right : c.in_ok-needed.needed ≡ c.conns_needed.result = sym number ∙ at.board ∙ ap (conns_needed b) same ∙ sym c.conns_needed.ensures in
    absurd (omega (arith, right, c.if-needed-conns_needed.true))
