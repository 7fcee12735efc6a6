use Rattle.std.proofs.Common.{List, subst}
use Rattle.route_law.specs.declared.certs.Entry.{Entry}
use Rattle.strip_moves.specs.Grounds.{ground_of}
use Rattle.path_trace.proofs.Boards.{is_sound, promised, traced, BringsBack}
use Rattle.path_trace.proofs.traces.trace.Goals as goal

pub into_conn-requires : goal.into_conn-requires
into_conn-requires g c =
    let b = c.args.board.now.parts in
    let set = c.args.planes.now in
    let n = c.args.net in
    let sources = c.args.sources.now in
    let cert = c.args.cert.now in
    let entry = c.args.entry in
    let v = c.args.end in
    let ground = ground_of b set n in
    let sound = is_sound b n set sources c.args.targets.now cert c.args.board.now.kept c.requires.net c.requires.planes c.requires.right in
    let back = subst (λ (entries : List Entry). BringsBack entries entry c.at-path.result c.go_back.new.path) c.as_slice.ensures c.in_ok-go_back.ensures in
    let is = promised b ground sources cert.entries entry v c.at-path.result c.go_back.new.path sound c.requires.entry c.requires.inside c.at-path.ensures.start c.at-path.ensures.legs back in
    record { start = is.whole.path.corner; steps = is.whole.path.form }

pub returns : goal.returns
returns g c =
    let b = c.args.board.now.parts in
    let set = c.args.planes.now in
    let n = c.args.net in
    let sources = c.args.sources.now in
    let cert = c.args.cert.now in
    let entry = c.args.entry in
    let v = c.args.end in
    let ground = ground_of b set n in
    let sound = is_sound b n set sources c.args.targets.now cert c.args.board.now.kept c.requires.net c.requires.planes c.requires.right in
    let back = subst (λ (entries : List Entry). BringsBack entries entry c.at-path.result c.go_back.new.path) c.as_slice.ensures c.in_ok-go_back.ensures in
    let is = promised b ground sources cert.entries entry v c.at-path.result c.go_back.new.path sound c.requires.entry c.requires.inside c.at-path.ensures.start c.at-path.ensures.legs back in
    let conn = traced b ground sources cert.entries entry v c.go_back.new.path c.into_conn.result is c.into_conn.ensures.start c.into_conn.ensures.legs (c.into_conn.ensures.cost set n) in
    record {
      well_formed = conn.well_formed;
      turns = conn.turns;
      starts = conn.starts;
      walk = conn.walk;
      strips = conn.strips;
      stops = conn.stops;
      ends = conn.ends;
      cost = conn.cost;
      promise = conn.promise;
    }
