use Rattle.std.proofs.Common.{◌≡◌, ◌<◌, ℕ, ◌+◌, List, Option, IfSome, IfNone, length, ◌∙◌, ap, arith}
use Rattle.board_model.specs.declared.made.Conn.{Conn}
use Rattle.board_model.specs.Made.{conns_of}
use Rattle.route_law.specs.Joins.{IsConnection}
use Rattle.route_law.specs.Routing.{conns_needed}
use Rattle.strip_moves.specs.Grounds.{ground_of}
use Rattle.walk_check.specs.Corners.{IsFirstBadCorner}
use Rattle.session_core.specs.Adopting.{IsVerdict}
use Rattle.session_core.proofs.Adopting.{ok_by_both, verdict_of}
use Rattle.session_core.proofs.adopts.refusal_of.Goals as goal

pub returns : goal.returns
returns g c =
    let b = c.args.board.now.parts in
    let lists = c.args.made.now.lists in
    let set = c.args.planes.now in
    let n = c.args.net in
    let conn = c.args.conn.now in
    let h = c.requires.sitting in
    let sources = c.as_slice.result.now in
    let targets = c.as_slice-2.result.now in
    let ground = ground_of b set n in
    let count : length c.conns.result.now ≡ length (conns_of lists n) = ap (λ (cs : List Conn). length cs) c.conns.ensures in
    let lacks : length (conns_of lists n) < conns_needed b n = omega arith in
    ok_by_both c.bad_corner.result
    (λ (told : Option ℕ). IfSome told (λ k. IsFirstBadCorner b ground conn sources targets k))
    (λ (told : Option ℕ). IfNone told (IsConnection b ground conn sources targets))
    (IsVerdict b lists n conn)
    (λ told some none. verdict_of b lists set n h.board c.requires.net h.stands conn lacks sources targets (length c.conns.result.now + 1) told
    (c.as_slice.ensures ∙ c.in_ok-sources.ensures) (c.as_slice-2.ensures ∙ c.in_ok-targets.ensures) (omega arith) some none)
    c.bad_corner.ensures.some c.bad_corner.ensures.none
