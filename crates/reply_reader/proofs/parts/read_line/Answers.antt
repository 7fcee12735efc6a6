use Rattle.std.proofs.Common.{drop, [], ◌∷◌, ◌∙◌, append_assoc}
use Rattle.reply_reader.proofs.LineForms.{refused_line, refused_end}
use Rattle.reply_reader.proofs.parts.read_line.Goals as goal

pub returns-in_default : goal.returns-in_default
returns-in_default g c =
    refused_end (g.L.Line.part c.args.board.now.parts) (g.L.Line.spelling c.args.board.now.parts) c.requires
    (drop c.args.place.now.at c.args.bytes.now) c.args.place.now.line c.in_default.ensures

pub returns : goal.returns
returns g c =
    let found = c.in-Some.ensures in
    refused_line (g.L.Line.part c.args.board.now.parts) (g.L.Line.spelling c.args.board.now.parts) c.requires
    (drop c.args.place.now.at c.args.bytes.now) c.in-Some.line.now (drop c.next_line.new.place.at c.args.bytes.now) c.in_ok-words.words c.args.place.now.line
    found.0 c.in_ok-words.ensures (found.1.cut ∙ append_assoc c.in-Some.line.now (10 ∷ []) (drop c.next_line.new.place.at c.args.bytes.now)) c.in-None.ensures.none
