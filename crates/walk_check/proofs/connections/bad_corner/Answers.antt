use Rattle.std.proofs.Common.{ℕ, ◌≡◌, ◌+◌, true, length, Option, IfSome, sym, ◌∙◌, subst}
use Rattle.geo_rect.specs.declared.ids.Node.{Node}
use Rattle.route_law.specs.Connections.{steps_of}
use Rattle.route_law.specs.Walks.{HasNode, last_node, walk_cost}
use Rattle.route_law.proofs.Joining.{walk_cost-legs}
use Rattle.strip_moves.specs.Grounds.{ground_of}
use Rattle.walk_check.specs.Corners.{IsGoodStart, IsFirstBadCorner, AreGoodLegs, IsFirstBadLeg}
use Rattle.walk_check.proofs.GoodCorners.{if_none, connection_by, kinds_known, places_known, bad_is_none, bad_start, bad_leg, bad_end, bad_cost}
use Rattle.walk_check.proofs.connections.bad_corner.Goals as goal

pub returns-then-not-is_good_start : goal.returns-then-not-is_good_start
returns-then-not-is_good_start g c =
    let b = c.args.board.now.parts in
    let set = c.args.planes.now in
    let n = c.args.net in
    let sources = c.args.sources.now in
    let targets = c.args.targets.now in
    let conn = c.args.conn.now in
    let ground = ground_of b set n in
    let first : IsFirstBadCorner b ground conn sources targets 0 = bad_start b set n sources targets conn (λ h. let k : c.is_good_start.result ≡ true = c.is_good_start.ensures.1 h in let m = c.if-not-is_good_start.true in cc) in
    record { some = first; bad = bad_is_none b set n sources targets conn 0 first; none = tt }

pub returns-in-Some : goal.returns-in-Some
returns-in-Some g c =
    let b = c.args.board.now.parts in
    let set = c.args.planes.now in
    let n = c.args.net in
    let sources = c.args.sources.now in
    let targets = c.args.targets.now in
    let conn = c.args.conn.now in
    let ground = ground_of b set n in
    let start : IsGoodStart ground sources conn.start = c.is_good_start.ensures.0 c.if-not-is_good_start.false in
    let P : Option ℕ → Type 0 = λ o. IfSome o (λ k. IsFirstBadLeg b ground conn.start conn.legs k) in
    let first : IsFirstBadCorner b ground conn sources targets c.in-Some.corner = bad_leg b set n sources targets conn start c.in-Some.corner (subst P c.in-Some.is c.in_ok-corner.ensures.some) in
    record { some = first; bad = bad_is_none b set n sources targets conn c.in-Some.corner first; none = tt }

pub returns-then-not-has_node : goal.returns-then-not-has_node
returns-then-not-has_node g c =
    let b = c.args.board.now.parts in
    let set = c.args.planes.now in
    let n = c.args.net in
    let sources = c.args.sources.now in
    let targets = c.args.targets.now in
    let conn = c.args.conn.now in
    let ground = ground_of b set n in
    let start : IsGoodStart ground sources conn.start = c.is_good_start.ensures.0 c.if-not-is_good_start.false in
    let legs : AreGoodLegs b ground conn.start conn.legs (length conn.legs) = if_none c.in_ok-corner.field-0 _ c.in_default.not-Some c.in_ok-corner.ensures.none in
    let away : HasNode targets (last_node conn.start conn.legs) → ⊥ = λ h.
    let k : c.has_node.result ≡ true = c.has_node.ensures.1 (subst (λ (v : Node). HasNode targets v) (sym c.end_of.ensures) h) in
    let m = c.if-not-has_node.true in
    cc in
    let first = subst (λ (k : ℕ). IsFirstBadCorner b ground conn sources targets k) (sym c.leg_count-corners.ensures.exact) (bad_end b set n sources targets conn start legs away) in
    record { some = first; bad = bad_is_none b set n sources targets conn c.leg_count-corners.result first; none = tt }

pub cost_of-requires-clause-kinds : goal.cost_of-requires-clause-kinds
cost_of-requires-clause-kinds g c =
    let legs = if_none c.in_ok-corner.field-0 _ c.in_default.not-Some c.in_ok-corner.ensures.none in
    kinds_known c.args.board.now.parts c.args.planes.now c.args.net c.args.sources.now c.args.targets.now c.args.conn.now legs

pub cost_of-requires-clause-places : goal.cost_of-requires-clause-places
cost_of-requires-clause-places g c =
    let b = c.args.board.now.parts in
    let set = c.args.planes.now in
    let n = c.args.net in
    let sources = c.args.sources.now in
    let start : IsGoodStart (ground_of b set n) sources c.args.conn.now.start = c.is_good_start.ensures.0 c.if-not-is_good_start.false in
    let legs = if_none c.in_ok-corner.field-0 _ c.in_default.not-Some c.in_ok-corner.ensures.none in
    places_known b set n sources c.args.targets.now c.args.conn.now c.args.board.now.kept start legs

pub returns-then-cost_of-conn : goal.returns-then-cost_of-conn
returns-then-cost_of-conn g c =
    let b = c.args.board.now.parts in
    let set = c.args.planes.now in
    let n = c.args.net in
    let sources = c.args.sources.now in
    let targets = c.args.targets.now in
    let conn = c.args.conn.now in
    let ground = ground_of b set n in
    let start : IsGoodStart ground sources conn.start = c.is_good_start.ensures.0 c.if-not-is_good_start.false in
    let legs : AreGoodLegs b ground conn.start conn.legs (length conn.legs) = if_none c.in_ok-corner.field-0 _ c.in_default.not-Some c.in_ok-corner.ensures.none in
    let ends : HasNode targets (last_node conn.start conn.legs) = subst (λ (v : Node). HasNode targets v) c.end_of.ensures (c.has_node.ensures.0 c.if-not-has_node.false) in
    let other : walk_cost ground (steps_of conn) ≡ conn.cost → ⊥ = λ h. c.if-cost_of-conn.true (c.cost_of.ensures set n ∙ sym (walk_cost-legs ground conn.start conn.legs) ∙ h) in
    let first = subst (λ (k : ℕ). IsFirstBadCorner b ground conn sources targets (k + 1)) (sym c.leg_count-corners.ensures.exact) (bad_cost b set n sources targets conn start legs ends other) in
    record { some = first; bad = bad_is_none b set n sources targets conn (c.leg_count-corners.result + 1) first; none = tt }

pub returns-clause-none : goal.returns-clause-none
returns-clause-none g c =
    let b = c.args.board.now.parts in
    let set = c.args.planes.now in
    let n = c.args.net in
    let sources = c.args.sources.now in
    let targets = c.args.targets.now in
    let conn = c.args.conn.now in
    let ground = ground_of b set n in
    let start : IsGoodStart ground sources conn.start = c.is_good_start.ensures.0 c.if-not-is_good_start.false in
    let legs : AreGoodLegs b ground conn.start conn.legs (length conn.legs) = if_none c.in_ok-corner.field-0 _ c.in_default.not-Some c.in_ok-corner.ensures.none in
    let ends : HasNode targets (last_node conn.start conn.legs) = subst (λ (v : Node). HasNode targets v) c.end_of.ensures (c.has_node.ensures.0 c.if-not-has_node.false) in
    connection_by b set n sources targets conn (places_known b set n sources targets conn c.args.board.now.kept start legs) start legs ends (walk_cost-legs ground conn.start conn.legs ∙ sym (c.cost_of.ensures set n) ∙ c.if-cost_of-conn.false)
