use Rattle.std.proofs.Common.{refl}
use Rattle.std.proofs.lemmas.List.Elements.{All-weaker}
use Rattle.std.specs.Option.{option_copied}
use Rattle.route_law.specs.Right.{IsRight}
use Rattle.strip_moves.specs.Grounds.{ground_of}
use Rattle.cert_check.specs.Fronts.{IsBoundedEntry, HasBoundedFront}
use Rattle.cert_check.specs.Stages.{Started, Followed, IsStarted, IsClosed}
use Rattle.cert_check.proofs.Cases.{not_both}
use Rattle.cert_check.proofs.Judging.{searched_none, searched_some, placed_in, founded_in, unfounded_in, right_if_closed, match_is_least, match_leaves_none}
use Rattle.strip_moves.proofs.Bounded.{the_ground}
use Rattle.cert_check.proofs.OnBoard.{all_placed_bounded}
use Rattle.cert_check.proofs.verdicts.check.Goals as goal

pub returns-in-Some-first_unfounded-clause-exact : goal.returns-in-Some-first_unfounded-clause-exact
returns-in-Some-first_unfounded-clause-exact g c =
    let ground = ground_of c.args.board.now.parts c.args.planes.now c.args.net in
    let sources = c.args.sources.now in
    let targets = c.args.targets.now in
    let cert = c.args.cert.now in
    let items = c.as_slice-entries.result.now in
    let e = c.as_slice-entries.ensures in
    (placed_in ground items c.args.cert.now.entries e c.in_default.ensures, unfounded_in ground sources items cert.entries c.in-Some-first_unfounded.entry e c.in-Some-first_unfounded.ensures.first)

pub first_uncovered_start-requires-clause-entries : goal.first_uncovered_start-requires-clause-entries
first_uncovered_start-requires-clause-entries g c =
    let b = c.args.board.now in
    let ground = ground_of c.args.board.now.parts c.args.planes.now c.args.net in
    let items = c.as_slice-entries.result.now in
    let e = c.as_slice-entries.ensures in
    All-weaker IsBoundedEntry HasBoundedFront (λ e s. s.front) c.args.cert.now.entries (all_placed_bounded b.parts c.args.planes.now c.args.net b.kept c.requires.planes c.requires.net c.args.cert.now.entries (placed_in ground items c.args.cert.now.entries e c.in_default.ensures))

pub returns-in-Some-start-clause-exact : goal.returns-in-Some-start-clause-exact
returns-in-Some-start-clause-exact g c =
    let ground = ground_of c.args.board.now.parts c.args.planes.now c.args.net in
    let sources = c.args.sources.now in
    let targets = c.args.targets.now in
    let cert = c.args.cert.now in
    let items = c.as_slice-entries.result.now in
    let e = c.as_slice-entries.ensures in
    (founded_in ground sources items cert.entries e c.in_default.ensures c.in_default-first_unfounded.ensures.first, searched_some (Started ground targets cert) sources c.in_ok-start.start c.in-Some-start.entry c.in-Some-start.is c.in_ok-start.ensures)

pub first_uncovered_move-requires-clause-placed : goal.first_uncovered_move-requires-clause-placed
first_uncovered_move-requires-clause-placed g c =
    let ground = ground_of c.args.board.now.parts c.args.planes.now c.args.net in
    let items = c.as_slice-entries.result.now in
    let e = c.as_slice-entries.ensures in
    placed_in ground items c.args.cert.now.entries e c.in_default.ensures

pub first_uncovered_move-requires-clause-entries : goal.first_uncovered_move-requires-clause-entries
first_uncovered_move-requires-clause-entries g c =
    let b = c.args.board.now in
    let ground = ground_of c.args.board.now.parts c.args.planes.now c.args.net in
    let items = c.as_slice-entries.result.now in
    let e = c.as_slice-entries.ensures in
    All-weaker IsBoundedEntry HasBoundedFront (λ e s. s.front) c.args.cert.now.entries (all_placed_bounded b.parts c.args.planes.now c.args.net b.kept c.requires.planes c.requires.net c.args.cert.now.entries (placed_in ground items c.args.cert.now.entries e c.in_default.ensures))

pub returns-in-Some-from-clause-exact : goal.returns-in-Some-from-clause-exact
returns-in-Some-from-clause-exact g c =
    let ground = ground_of c.args.board.now.parts c.args.planes.now c.args.net in
    let sources = c.args.sources.now in
    let targets = c.args.targets.now in
    let cert = c.args.cert.now in
    let items = c.as_slice-entries.result.now in
    let e = c.as_slice-entries.ensures in
    let started : IsStarted ground sources targets cert = record {
      entries = founded_in ground sources items cert.entries e c.in_default.ensures c.in_default-first_unfounded.ensures.first;
      starts = searched_none (Started ground targets cert) sources c.in_ok-start.start c.in_default-start.is c.in_ok-start.ensures;
    } in
    (started, searched_some (Followed ground targets cert) cert.entries c.in_ok-from.from c.in-Some-from.entry c.in-Some-from.is c.in_ok-from.ensures)

pub is_bound-requires-clause-bounded : goal.is_bound-requires-clause-bounded
is_bound-requires-clause-bounded g c =
    let b = c.args.board.now in
    let ground = ground_of c.args.board.now.parts c.args.planes.now c.args.net in
    let items = c.as_slice-entries.result.now in
    let e = c.as_slice-entries.ensures in
    all_placed_bounded b.parts c.args.planes.now c.args.net b.kept c.requires.planes c.requires.net c.args.cert.now.entries (placed_in ground items c.args.cert.now.entries e c.in_default.ensures)

pub returns-then-not-is_bound-clause-exact : goal.returns-then-not-is_bound-clause-exact
returns-then-not-is_bound-clause-exact g c =
    let ground = ground_of c.args.board.now.parts c.args.planes.now c.args.net in
    let sources = c.args.sources.now in
    let targets = c.args.targets.now in
    let cert = c.args.cert.now in
    let items = c.as_slice-entries.result.now in
    let e = c.as_slice-entries.ensures in
    let started : IsStarted ground sources targets cert = record {
      entries = founded_in ground sources items cert.entries e c.in_default.ensures c.in_default-first_unfounded.ensures.first;
      starts = searched_none (Started ground targets cert) sources c.in_ok-start.start c.in_default-start.is c.in_ok-start.ensures;
    } in
    let closed : IsClosed ground sources targets cert = record {
      started = started;
      moves = searched_none (Followed ground targets cert) cert.entries c.in_ok-from.from c.in_default-from.is c.in_ok-from.ensures;
    } in
    record { closed = closed; wrong = λ h. not_both (c.is_bound.ensures.1 h) c.if-not-is_bound.true; no_entry = refl }

pub returns-then-not-matches-clause-exact : goal.returns-then-not-matches-clause-exact
returns-then-not-matches-clause-exact g c =
    let ground = ground_of c.args.board.now.parts c.args.planes.now c.args.net in
    let sources = c.args.sources.now in
    let targets = c.args.targets.now in
    let cert = c.args.cert.now in
    let items = c.as_slice-entries.result.now in
    let e = c.as_slice-entries.ensures in
    let started : IsStarted ground sources targets cert = record {
      entries = founded_in ground sources items cert.entries e c.in_default.ensures c.in_default-first_unfounded.ensures.first;
      starts = searched_none (Started ground targets cert) sources c.in_ok-start.start c.in_default-start.is c.in_ok-start.ensures;
    } in
    let closed : IsClosed ground sources targets cert = record {
      started = started;
      moves = searched_none (Followed ground targets cert) cert.entries c.in_ok-from.from c.in_default-from.is c.in_ok-from.ensures;
    } in
    let right : IsRight ground sources targets cert = right_if_closed ground sources targets cert closed (c.is_bound.ensures.0 c.if-not-is_bound.false) in
    record { right = right; wrong = λ h. not_both (c.in_ok-matches.ensures.1 h) c.if-not-matches.true; no_entry = refl }

pub returns-clause-exact : goal.returns-clause-exact
returns-clause-exact g c =
    let ground = ground_of c.args.board.now.parts c.args.planes.now c.args.net in
    let sources = c.args.sources.now in
    let targets = c.args.targets.now in
    let cert = c.args.cert.now in
    let items = c.as_slice-entries.result.now in
    let e = c.as_slice-entries.ensures in
    let started : IsStarted ground sources targets cert = record {
      entries = founded_in ground sources items cert.entries e c.in_default.ensures c.in_default-first_unfounded.ensures.first;
      starts = searched_none (Started ground targets cert) sources c.in_ok-start.start c.in_default-start.is c.in_ok-start.ensures;
    } in
    let closed : IsClosed ground sources targets cert = record {
      started = started;
      moves = searched_none (Followed ground targets cert) cert.entries c.in_ok-from.from c.in_default-from.is c.in_ok-from.ensures;
    } in
    let right : IsRight ground sources targets cert = right_if_closed ground sources targets cert closed (c.is_bound.ensures.0 c.if-not-is_bound.false) in
    record { right = right; match = c.in_ok-matches.ensures.0 c.if-not-matches.false }

pub returns-clause-yes_is_least : goal.returns-clause-yes_is_least
returns-clause-yes_is_least g c =
    let b = c.args.board.now in
    let ground = ground_of c.args.board.now.parts c.args.planes.now c.args.net in
    let sources = c.args.sources.now in
    let targets = c.args.targets.now in
    let cert = c.args.cert.now in
    let items = c.as_slice-entries.result.now in
    let e = c.as_slice-entries.ensures in
    let started : IsStarted ground sources targets cert = record {
      entries = founded_in ground sources items cert.entries e c.in_default.ensures c.in_default-first_unfounded.ensures.first;
      starts = searched_none (Started ground targets cert) sources c.in_ok-start.start c.in_default-start.is c.in_ok-start.ensures;
    } in
    let closed : IsClosed ground sources targets cert = record {
      started = started;
      moves = searched_none (Followed ground targets cert) cert.entries c.in_ok-from.from c.in_default-from.is c.in_ok-from.ensures;
    } in
    let right : IsRight ground sources targets cert = right_if_closed ground sources targets cert closed (c.is_bound.ensures.0 c.if-not-is_bound.false) in
    match_is_least b.parts ground sources targets (option_copied c.args.conn) cert (the_ground b.parts c.args.planes.now c.args.net b.kept c.requires.planes c.requires.net) right
    (c.in_ok-matches.ensures.0 c.if-not-matches.false)

pub returns-clause-yes_is_none : goal.returns-clause-yes_is_none
returns-clause-yes_is_none g c =
    let b = c.args.board.now in
    let ground = ground_of c.args.board.now.parts c.args.planes.now c.args.net in
    let sources = c.args.sources.now in
    let targets = c.args.targets.now in
    let cert = c.args.cert.now in
    let items = c.as_slice-entries.result.now in
    let e = c.as_slice-entries.ensures in
    let started : IsStarted ground sources targets cert = record {
      entries = founded_in ground sources items cert.entries e c.in_default.ensures c.in_default-first_unfounded.ensures.first;
      starts = searched_none (Started ground targets cert) sources c.in_ok-start.start c.in_default-start.is c.in_ok-start.ensures;
    } in
    let closed : IsClosed ground sources targets cert = record {
      started = started;
      moves = searched_none (Followed ground targets cert) cert.entries c.in_ok-from.from c.in_default-from.is c.in_ok-from.ensures;
    } in
    let right : IsRight ground sources targets cert = right_if_closed ground sources targets cert closed (c.is_bound.ensures.0 c.if-not-is_bound.false) in
    match_leaves_none b.parts ground sources targets (option_copied c.args.conn) cert (the_ground b.parts c.args.planes.now c.args.net b.kept c.requires.planes c.requires.net) right
    (c.in_ok-matches.ensures.0 c.if-not-matches.false)
