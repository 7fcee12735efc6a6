use Rattle.std.proofs.Common.{◌≡◌, length, take, drop, ◌-◌, arith}
use Rattle.std.proofs.lemmas.Grind.{common_steps}
use Rattle.reply_reader.proofs.Composing.{passed_cut}
use Rattle.reply_reader.proofs.lines.next_line.Goals as goal

pub returns : goal.returns
returns c =
    let at = c.args.place.now.at in
    let bytes = c.args.bytes.now in
    let whole : take (length bytes - at) (drop at bytes) ≡ drop at bytes = grind (arith, common_steps) in
    let found = c.in_ok-length.ensures in
    (found.0, passed_cut bytes at c.in_ok-length.length c.args.place.now.line (take (length bytes - at) (drop at bytes)) whole found.1 found.2 found.0)
