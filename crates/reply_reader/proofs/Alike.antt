-- What stands in the words of a line is one value at most.
use Rattle.std.proofs.Common.{◌≡◌, ℕ, ℤ, ◌+◌, ◌<◌, ◌≤◌, ◌^◌, List, [], ◌∷◌, length, get_or, Option, Some, None, codes, decimal, refl, sym, ap, ◌∙◌, subst, ◌⊎◌, inl, inr, arith}
use Rattle.std.proofs.lemmas.Bool.{cases_lt}
use Rattle.geo_rect.proofs.Same.{same_interval, same_rect}
use Rattle.geo_rect.specs.Plane.{columns, rows}
use Rattle.reply_reader.proofs.Decimals.{same_decimal, same_coordinate, digits_above}
use Rattle.std.specs.List.{AllByRecursion as ByRecursion}
use Rattle.geo_rect.specs.declared.ids.ClassId.{ClassId}
use Rattle.geo_rect.specs.declared.ids.KindId.{KindId}
use Rattle.geo_rect.specs.declared.ids.Label.{Label}
use Rattle.geo_rect.specs.declared.ids.Label.TheVariants.{Free, One, Many}
use Rattle.geo_rect.specs.declared.ids.LayerId.{LayerId}
use Rattle.geo_rect.specs.declared.ids.NetId.{NetId}
use Rattle.geo_rect.specs.declared.ids.Node.{Node}
use Rattle.geo_rect.specs.declared.shapes.Rect.{Rect}
use Rattle.board_model.specs.declared.made.Leg.{Leg}
use Rattle.board_model.specs.declared.made.Leg.TheVariants as leg
use Rattle.board_parts.specs.declared.parts.BoardParts.{BoardParts}
use Rattle.board_model.specs.declared.shapes.Owned.{Owned}
use Rattle.board_model.specs.declared.shapes.Violation.{Violation}
use Rattle.board_model.specs.declared.shapes.Violation.TheVariants.{Close, Outline}
use Rattle.board_parts.specs.Rules.{IsBoard, AreNames}
use Rattle.plane_core.specs.declared.strips.Strip.{Strip}
use Rattle.route_law.specs.declared.certs.Entry.{Entry}
use Rattle.route_law.specs.declared.certs.Origin.{Origin}
use Rattle.route_law.specs.declared.certs.Origin.TheVariants as origin
use Rattle.route_law.specs.Regular.{IsLayerOf, IsKindOf, IsNetOf}
use Rattle.board_parts.specs.Lookup.{layer_name, class_name, kind_name, net_name}
use Rattle.reply_reader.specs.declared.heads.CertHead.{CertHead}
use Rattle.reply_reader.specs.declared.heads.ConnHead.{ConnHead}
use Rattle.reply_reader.specs.declared.heads.Head.{Head}
use Rattle.reply_reader.specs.declared.heads.Head.TheVariants as head
use Rattle.reply_reader.specs.declared.heads.NoneHead.{NoneHead}
use Rattle.reply_reader.specs.declared.heads.RouteHead.{RouteHead}
use Rattle.reply_reader.specs.InRange.{IsCount, IsCost}
use Rattle.reply_reader.specs.Fields.{IsClassOf, IsAreaAt, IsNodeAt}
use Rattle.reply_reader.specs.Said.{IsConnHeadAt, IsStartAt, IsLegAt, IsBoundAt, IsCertHeadAt, origin_place, IsOriginAt, IsEntryRestAt, IsEntryAt, IsNoneHeadAt, IsNetAt, IsRouteHeadAt, IsHeadAt, owner_place, IsOwnerAt, IsOwnedAt, after_owned, IsViolationAt, label_place, IsLabelAt, IsStripAt}

-- names at two places that are alike are at one
pub same_place : (most : ℕ) (names : List (List ℕ)) → AreNames most names → (i j : ℕ) → i < length names → j < length names
    → get_or names i [] ≡ get_or names j [] → i ≡ j
same_place most names are i j hi hj e = by (cases_lt i j) (cases_lt j i)
  where
    by : (i < j) ⊎ (j ≤ i) → (j < i) ⊎ (i ≤ j) → i ≡ j
    by (inl lt) other = absurd (are.apart i j [] lt hj e)
    by (inr le) (inl lt) = absurd (are.apart j i [] lt hi (sym e))
    by (inr le) (inr ge) = omega arith

pub same_layer : (b : BoardParts) → IsBoard b → (l m : LayerId) → IsLayerOf b l → IsLayerOf b m → layer_name b l ≡ layer_name b m → l ≡ m
same_layer b kept l m hl hm e = ap (λ (n : ℕ). let k : LayerId = record { 0 = n } in k) (same_place _ b.layers kept.layers l.0 m.0 hl hm e)

pub same_class : (b : BoardParts) → IsBoard b → (l m : ClassId) → IsClassOf b l → IsClassOf b m → class_name b l ≡ class_name b m → l ≡ m
same_class b kept l m hl hm e = ap (λ (n : ℕ). let k : ClassId = record { 0 = n } in k) (same_place _ b.classes kept.classes l.0 m.0 hl hm e)

pub same_kind : (b : BoardParts) → IsBoard b → (l m : KindId) → IsKindOf b l → IsKindOf b m → kind_name b l ≡ kind_name b m → l ≡ m
same_kind b kept l m hl hm e = ap (λ (n : ℕ). let k : KindId = record { 0 = n } in k) (same_place _ b.kind_names kept.kind_names l.0 m.0 hl hm e)

pub same_net : (b : BoardParts) → IsBoard b → (l m : NetId) → IsNetOf b l → IsNetOf b m → net_name b l ≡ net_name b m → l ≡ m
same_net b kept l m hl hm e = ap (λ (n : ℕ). let k : NetId = record { 0 = n } in k) (same_place _ b.net_names kept.net_names l.0 m.0 hl hm e)

same_count : (w : List ℕ) (m n : ℕ) → (decimal m ≡ w) × IsCount m → (decimal n ≡ w) × IsCount n → m ≡ n
same_count w m n hm hn =
    let a : m < 10 ^ 64 = let k = hm.1 in omega arith in
    let b : n < 10 ^ 64 = let k = hn.1 in omega arith in
    same_decimal m n a b (hm.0 ∙ sym hn.0)

same_cost : (w : List ℕ) (m n : ℕ) → (decimal m ≡ w) × IsCost m → (decimal n ≡ w) × IsCost n → m ≡ n
same_cost w m n hm hn =
    let a : m < 10 ^ 64 = let k = hm.1 in omega arith in
    let b : n < 10 ^ 64 = let k = hn.1 in omega arith in
    same_decimal m n a b (hm.0 ∙ sym hn.0)

pub same_node_at : (b : BoardParts) → IsBoard b → (ws : List (List ℕ)) (k : ℕ) (v w : Node) → IsNodeAt b ws k v → IsNodeAt b ws k w → v ≡ w
same_node_at b kept ws k v w hv hw =
    let f : ℤ → ℤ → LayerId → Node = λ x y l. record { x = x; y = y; layer = l } in
    ap (λ (x : ℤ). f x v.y v.layer) (same_coordinate ws k v.x w.x hv.across hw.across)
    ∙ ap (λ (y : ℤ). f w.x y v.layer) (same_coordinate ws (k + 1) v.y w.y hv.up hw.up)
    ∙ ap (λ (l : LayerId). f w.x w.y l) (same_layer b kept v.layer w.layer hv.known hw.known (hv.layer ∙ sym hw.layer))

pub same_area_at : (ws : List (List ℕ)) (k : ℕ) (r s : Rect) → IsAreaAt ws k r → IsAreaAt ws k s → r ≡ s
same_area_at ws k r s hr hs =
    same_rect r s
    (same_interval (columns r) (columns s) (same_coordinate ws k r.x0 s.x0 hr.left hs.left) (same_coordinate ws (k + 2) r.x1 s.x1 hr.right hs.right))
    (same_interval (rows r) (rows s) (same_coordinate ws (k + 1) r.y0 s.y0 hr.below hs.below) (same_coordinate ws (k + 3) r.y1 s.y1 hr.above hs.above))

pub same_conn_head : (ws : List (List ℕ)) (g h : ConnHead) → IsConnHeadAt ws g → IsConnHeadAt ws h → g ≡ h
same_conn_head ws g h hg hh =
    let f : ℕ → ℕ → ℕ → ConnHead = λ n c l. record { number = n; cost = c; legs = l } in
    ap (λ (n : ℕ). f n g.cost g.legs) (same_count _ g.number h.number hg.number hh.number)
    ∙ ap (λ (c : ℕ). f h.number c g.legs) (same_cost _ g.cost h.cost hg.cost hh.cost)
    ∙ ap (λ (l : ℕ). f h.number h.cost l) (same_count _ g.legs h.legs hg.legs hh.legs)

pub same_start : (b : BoardParts) → IsBoard b → (ws : List (List ℕ)) (v w : Node) → IsStartAt b ws v → IsStartAt b ws w → v ≡ w
same_start b kept ws v w hv hw = same_node_at b kept ws 1 v w hv.node hw.node

pub same_leg : (b : BoardParts) → IsBoard b → (ws : List (List ℕ)) (l m : Leg) → IsLegAt b ws l → IsLegAt b ws m → l ≡ m
same_leg b kept ws (leg.Wire v) (leg.Wire w) hl hm = ap leg.Wire (same_node_at b kept ws 1 v w hl.node hm.node)
same_leg b kept ws (leg.Wire v) (leg.Via k w) hl hm = absurd (omega (arith, hl.form.long, hm.form.long))
same_leg b kept ws (leg.Via j v) (leg.Wire w) hl hm = absurd (omega (arith, hl.form.long, hm.form.long))
same_leg b kept ws (leg.Via j v) (leg.Via k w) hl hm =
    ap (λ (i : KindId). leg.Via i v) (same_kind b kept j k hl.known hm.known (hl.kind ∙ sym hm.kind))
    ∙ ap (leg.Via k) (same_node_at b kept ws 2 v w hl.node hm.node)

-- a number is spelled by digits, and no dash
no_dash : (n : ℕ) → IsCost n → decimal n ≡ codes "-" → ⊥
no_dash n lt e =
    let wide : n < 10 ^ 64 = omega arith in
    let digits : ByRecursion (λ c. 48 ≤ c) (codes "-") = subst (ByRecursion (λ c. 48 ≤ c)) e (digits_above n wide) in
    absurd (omega (arith, digits.0))

same_bound : (ws : List (List ℕ)) (k : ℕ) (m n : Option ℕ) → IsBoundAt ws k m → IsBoundAt ws k n → m ≡ n
same_bound ws k None None hm hn = refl
same_bound ws k None (Some n) hm hn = absurd (no_dash n hn.range (hn.spelled ∙ sym hm.spelled))
same_bound ws k (Some m) None hm hn = absurd (no_dash m hm.range (hm.spelled ∙ sym hn.spelled))
same_bound ws k (Some m) (Some n) hm hn = ap Some (same_cost _ m n (hm.spelled, hm.range) (hn.spelled, hn.range))

pub same_cert_head : (ws : List (List ℕ)) (g h : CertHead) → IsCertHeadAt ws g → IsCertHeadAt ws h → g ≡ h
same_cert_head ws g h hg hh =
    let f : Option ℕ → ℕ → CertHead = λ o n. record { bound = o; entries = n } in
    ap (λ (o : Option ℕ). f o g.entries) (same_bound ws 1 g.bound h.bound hg.bound hh.bound)
    ∙ ap (f h.bound) (same_count _ g.entries h.entries hg.entries hh.entries)

pub same_origin : (b : BoardParts) → IsBoard b → (ws : List (List ℕ)) (o p : Origin) → IsOriginAt b ws o → IsOriginAt b ws p → o ≡ p
same_origin b kept ws (origin.Source m) (origin.Source n) ho hp = ap origin.Source (same_count _ m n ho.number hp.number)
same_origin b kept ws (origin.Source m) (origin.Step n) ho hp = let e : codes "src" ≡ codes "step" = sym ho.form.keyword ∙ hp.form.keyword in absurd cc
same_origin b kept ws (origin.Source m) (origin.Via n k) ho hp = absurd (omega (arith, ho.form.long, hp.form.long))
same_origin b kept ws (origin.Step m) (origin.Source n) ho hp = let e : codes "step" ≡ codes "src" = sym ho.form.keyword ∙ hp.form.keyword in absurd cc
same_origin b kept ws (origin.Step m) (origin.Step n) ho hp = ap origin.Step (same_count _ m n ho.number hp.number)
same_origin b kept ws (origin.Step m) (origin.Via n k) ho hp = absurd (omega (arith, ho.form.long, hp.form.long))
same_origin b kept ws (origin.Via m j) (origin.Source n) ho hp = absurd (omega (arith, ho.form.long, hp.form.long))
same_origin b kept ws (origin.Via m j) (origin.Step n) ho hp = absurd (omega (arith, ho.form.long, hp.form.long))
same_origin b kept ws (origin.Via m j) (origin.Via n k) ho hp =
    ap (λ (i : ℕ). origin.Via i j) (same_count _ m n ho.entry hp.entry) ∙ ap (origin.Via n) (same_kind b kept j k ho.known hp.known (ho.kind ∙ sym hp.kind))

pub same_entry : (b : BoardParts) → IsBoard b → (ws : List (List ℕ)) (d e : Entry) → IsEntryAt b ws d → IsEntryAt b ws e → d ≡ e
same_entry b kept ws d e hd he =
    let f : Origin → LayerId → Rect → Rect → ℕ → Entry = λ o l s t c. record { layer = l; strip = s; front = t; cost = c; origin = o } in
    let o : d.origin ≡ e.origin = same_origin b kept ws d.origin e.origin hd.source he.source in
    let r : IsEntryRestAt b ws (origin_place e.origin) d = subst (λ (o : Origin). IsEntryRestAt b ws (origin_place o) d) o hd.rest in
    let k : ℕ = origin_place e.origin in
    ap (λ (o : Origin). f o d.layer d.strip d.front d.cost) o
    ∙ ap (λ (l : LayerId). f e.origin l d.strip d.front d.cost) (same_layer b kept d.layer e.layer r.known he.rest.known (r.layer ∙ sym he.rest.layer))
    ∙ ap (λ (s : Rect). f e.origin e.layer s d.front d.cost) (same_area_at ws (k + 1) d.strip e.strip r.strip he.rest.strip)
    ∙ ap (λ (s : Rect). f e.origin e.layer e.strip s d.cost) (same_area_at ws (k + 5) d.front e.front r.front he.rest.front)
    ∙ ap (λ (c : ℕ). f e.origin e.layer e.strip e.front c) (same_cost _ d.cost e.cost r.cost he.rest.cost)

pub same_none_head : (ws : List (List ℕ)) (g h : NoneHead) → IsNoneHeadAt ws g → IsNoneHeadAt ws h → g ≡ h
same_none_head ws g h hg hh = ap (λ (n : ℕ). let k : NoneHead = record { number = n } in k) (same_count _ g.number h.number hg.number hh.number)

same_net_at : (b : BoardParts) → IsBoard b → (ws : List (List ℕ)) (k : ℕ) (m n : NetId) → IsNetAt b ws k m → IsNetAt b ws k n → m ≡ n
same_net_at b kept ws k m n hm hn = same_net b kept m n hm.known hn.known (hm.net ∙ sym hn.net)

pub same_route_head : (b : BoardParts) → IsBoard b → (ws : List (List ℕ)) (g h : RouteHead) → IsRouteHeadAt b ws g → IsRouteHeadAt b ws h → g ≡ h
same_route_head b kept ws g h hg hh =
    let f : NetId → ℕ → ℕ → RouteHead = λ n m k. record { net = n; made = m; missing = k } in
    let few : IsCount g.made = let a = hg.order in let b = hg.missing.1 in omega arith in
    let few_too : IsCount h.made = let a = hh.order in let b = hh.missing.1 in omega arith in
    ap (λ (n : NetId). f n g.made g.missing) (same_net_at b kept ws 1 g.net h.net hg.net hh.net)
    ∙ ap (λ (m : ℕ). f h.net m g.missing) (same_count _ g.made h.made (hg.made, few) (hh.made, few_too))
    ∙ ap (λ (k : ℕ). f h.net h.made k) (same_count _ g.missing h.missing hg.missing hh.missing)

pub same_owner_at : (b : BoardParts) → IsBoard b → (ws : List (List ℕ)) (k : ℕ) (o p : Option NetId) → IsOwnerAt b ws k o → IsOwnerAt b ws k p → o ≡ p
same_owner_at b kept ws k None None ho hp = refl
same_owner_at b kept ws k None (Some n) ho hp = let e : codes "block" ≡ codes "net" = sym ho ∙ hp.0 in absurd cc
same_owner_at b kept ws k (Some m) None ho hp = let e : codes "block" ≡ codes "net" = sym hp ∙ ho.0 in absurd cc
same_owner_at b kept ws k (Some m) (Some n) ho hp = ap Some (same_net_at b kept ws (k + 1) m n ho.1 hp.1)

pub same_owned_at : (b : BoardParts) → IsBoard b → (ws : List (List ℕ)) (k : ℕ) (o p : Owned) → IsOwnedAt b ws k o → IsOwnedAt b ws k p → o ≡ p
same_owned_at b kept ws k o p ho hp =
    let f : Option NetId → Rect → Owned = λ n r. record { owner = n; area = r } in
    let w : o.owner ≡ p.owner = same_owner_at b kept ws k o.owner p.owner ho.whose hp.whose in
    let a : IsAreaAt ws (k + owner_place p.owner) o.area = subst (λ (n : Option NetId). IsAreaAt ws (k + owner_place n) o.area) w ho.where_it_is in
    ap (λ (n : Option NetId). f n o.area) w ∙ ap (f p.owner) (same_area_at ws (k + owner_place p.owner) o.area p.area a hp.where_it_is)

pub same_violation : (b : BoardParts) → IsBoard b → (ws : List (List ℕ)) (v w : Violation) → IsViolationAt b ws v → IsViolationAt b ws w → v ≡ w
same_violation b kept ws (Close l o q) (Close m p r) hv hw =
    let first : o ≡ p = same_owned_at b kept ws 2 o p hv.first hw.first in
    let second : IsOwnedAt b ws (after_owned 2 p) q = subst (λ (s : Owned). IsOwnedAt b ws (after_owned 2 s) q) first hv.second in
    ap (λ (k : LayerId). Close k o q) (same_layer b kept l m hv.known hw.known (hv.layer ∙ sym hw.layer))
    ∙ ap (λ (s : Owned). Close m s q) first
    ∙ ap (Close m p) (same_owned_at b kept ws (after_owned 2 p) q r second hw.second)
same_violation b kept ws (Close l o q) (Outline m p) hv hw = let e : codes "close" ≡ codes "outline" = sym hv.keyword ∙ hw.keyword in absurd cc
same_violation b kept ws (Outline l o) (Close m p r) hv hw = let e : codes "close" ≡ codes "outline" = sym hw.keyword ∙ hv.keyword in absurd cc
same_violation b kept ws (Outline l o) (Outline m p) hv hw =
    ap (λ (k : LayerId). Outline k o) (same_layer b kept l m hv.known hw.known (hv.layer ∙ sym hw.layer))
    ∙ ap (Outline m) (same_owned_at b kept ws 2 o p hv.shape hw.shape)

same_first : (a b : ℕ) (s t : List ℕ) → a ∷ s ≡ b ∷ t → a ≡ b
same_first a b s t e = cc

same_label : (b : BoardParts) → IsBoard b → (ws : List (List ℕ)) (l m : Label) → IsLabelAt b ws l → IsLabelAt b ws m → l ≡ m
same_label b kept ws Free Free hl hm = refl
same_label b kept ws Free (One n) hl hm = absurd (omega (arith, hl.long, hm.form.long))
same_label b kept ws Free Many hl hm = let e : codes "free" ≡ codes "many" = sym hl.keyword ∙ hm.keyword in let h : 102 ≡ 109 = same_first 102 109 (codes "ree") (codes "any") e in absurd (omega (arith, h))
same_label b kept ws (One n) Free hl hm = absurd (omega (arith, hl.form.long, hm.long))
same_label b kept ws (One m) (One n) hl hm = ap One (same_net_at b kept ws 1 m n hl.net hm.net)
same_label b kept ws (One n) Many hl hm = absurd (omega (arith, hl.form.long, hm.long))
same_label b kept ws Many Free hl hm = let e : codes "free" ≡ codes "many" = sym hm.keyword ∙ hl.keyword in let h : 102 ≡ 109 = same_first 102 109 (codes "ree") (codes "any") e in absurd (omega (arith, h))
same_label b kept ws Many (One n) hl hm = absurd (omega (arith, hl.long, hm.form.long))
same_label b kept ws Many Many hl hm = refl

pub same_strip : (b : BoardParts) → IsBoard b → (ws : List (List ℕ)) (s t : Strip) → IsStripAt b ws s → IsStripAt b ws t → s ≡ t
same_strip b kept ws s t hs ht =
    let f : Rect → Label → Strip = λ r l. record { area = r; label = l } in
    let w : s.label ≡ t.label = same_label b kept ws s.label t.label hs.free ht.free in
    let a : IsAreaAt ws (label_place t.label) s.area = subst (λ (l : Label). IsAreaAt ws (label_place l) s.area) w hs.area in
    ap (λ (l : Label). f s.area l) w ∙ ap (λ (r : Rect). f r t.label) (same_area_at ws (label_place t.label) s.area t.area a ht.area)

pub same_head : (b : BoardParts) → IsBoard b → (ws : List (List ℕ)) (g h : Head) → IsHeadAt b ws g → IsHeadAt b ws h → g ≡ h
same_head b kept ws (head.Route g) (head.Route h) hg hh = ap head.Route (same_route_head b kept ws g h hg hh)
same_head b kept ws (head.Route g) (head.All n) hg hh = absurd (omega (arith, hg.form.long, hh.form.long))
same_head b kept ws (head.Route g) (head.Rip n k) hg hh = absurd (omega (arith, hg.form.long, hh.form.long))
same_head b kept ws (head.Route g) (head.Show n e k) hg hh = absurd (omega (arith, hg.form.long, hh.form.long))
same_head b kept ws (head.Route g) (head.Rules k) hg hh = absurd (omega (arith, hg.form.long, hh.form.long))
same_head b kept ws (head.Route g) (head.Strips p q k) hg hh = absurd (omega (arith, hg.form.long, hh.form.long))
same_head b kept ws (head.All m) (head.Route h) hg hh = absurd (omega (arith, hg.form.long, hh.form.long))
same_head b kept ws (head.All m) (head.All n) hg hh = ap head.All (same_count _ m n hg.number hh.number)
same_head b kept ws (head.All m) (head.Rip n k) hg hh = absurd (omega (arith, hg.form.long, hh.form.long))
same_head b kept ws (head.All m) (head.Show n e k) hg hh = absurd (omega (arith, hg.form.long, hh.form.long))
same_head b kept ws (head.All m) (head.Rules k) hg hh = let w : codes "all" ≡ codes "rules" = sym hg.form.keyword ∙ hh.form.keyword in absurd cc
same_head b kept ws (head.All m) (head.Strips p q k) hg hh = absurd (omega (arith, hg.form.long, hh.form.long))
same_head b kept ws (head.Rip m j) (head.Route h) hg hh = absurd (omega (arith, hg.form.long, hh.form.long))
same_head b kept ws (head.Rip m j) (head.All n) hg hh = absurd (omega (arith, hg.form.long, hh.form.long))
same_head b kept ws (head.Rip m j) (head.Rip n k) hg hh = ap (λ (i : NetId). head.Rip i j) (same_net_at b kept ws 1 m n hg.net hh.net) ∙ ap (head.Rip n) (same_count _ j k hg.number hh.number)
same_head b kept ws (head.Rip m j) (head.Show n e k) hg hh = absurd (omega (arith, hg.form.long, hh.form.long))
same_head b kept ws (head.Rip m j) (head.Rules k) hg hh = absurd (omega (arith, hg.form.long, hh.form.long))
same_head b kept ws (head.Rip m j) (head.Strips p q k) hg hh = let w : codes "rip" ≡ codes "strips" = sym hg.form.keyword ∙ hh.form.keyword in absurd cc
same_head b kept ws (head.Show m d j) (head.Route h) hg hh = absurd (omega (arith, hg.form.long, hh.form.long))
same_head b kept ws (head.Show m d j) (head.All n) hg hh = absurd (omega (arith, hg.form.long, hh.form.long))
same_head b kept ws (head.Show m d j) (head.Rip n k) hg hh = absurd (omega (arith, hg.form.long, hh.form.long))
same_head b kept ws (head.Show m d j) (head.Show n e k) hg hh =
    ap (λ (i : NetId). head.Show i d j) (same_net_at b kept ws 1 m n hg.net hh.net)
    ∙ ap (λ (i : ℕ). head.Show n i j) (same_count _ d e hg.all hh.all) ∙ ap (head.Show n e) (same_count _ j k hg.number hh.number)
same_head b kept ws (head.Show m d j) (head.Rules k) hg hh = absurd (omega (arith, hg.form.long, hh.form.long))
same_head b kept ws (head.Show m d j) (head.Strips p q k) hg hh = absurd (omega (arith, hg.form.long, hh.form.long))
same_head b kept ws (head.Rules j) (head.Route h) hg hh = absurd (omega (arith, hg.form.long, hh.form.long))
same_head b kept ws (head.Rules j) (head.All n) hg hh = let w : codes "rules" ≡ codes "all" = sym hg.form.keyword ∙ hh.form.keyword in absurd cc
same_head b kept ws (head.Rules j) (head.Rip n k) hg hh = absurd (omega (arith, hg.form.long, hh.form.long))
same_head b kept ws (head.Rules j) (head.Show n e k) hg hh = absurd (omega (arith, hg.form.long, hh.form.long))
same_head b kept ws (head.Rules j) (head.Rules k) hg hh = ap head.Rules (same_count _ j k hg.number hh.number)
same_head b kept ws (head.Rules j) (head.Strips p q k) hg hh = absurd (omega (arith, hg.form.long, hh.form.long))
same_head b kept ws (head.Strips l c j) (head.Route h) hg hh = absurd (omega (arith, hg.form.long, hh.form.long))
same_head b kept ws (head.Strips l c j) (head.All n) hg hh = absurd (omega (arith, hg.form.long, hh.form.long))
same_head b kept ws (head.Strips l c j) (head.Rip n k) hg hh = let w : codes "strips" ≡ codes "rip" = sym hg.form.keyword ∙ hh.form.keyword in absurd cc
same_head b kept ws (head.Strips l c j) (head.Show n e k) hg hh = absurd (omega (arith, hg.form.long, hh.form.long))
same_head b kept ws (head.Strips l c j) (head.Rules k) hg hh = absurd (omega (arith, hg.form.long, hh.form.long))
same_head b kept ws (head.Strips l c j) (head.Strips p q k) hg hh =
    ap (λ (i : LayerId). head.Strips i c j) (same_layer b kept l p hg.known hh.known (hg.layer ∙ sym hh.layer))
    ∙ ap (λ (i : ClassId). head.Strips p i j) (same_class b kept c q hg.known_class hh.known_class (hg.class ∙ sym hh.class))
    ∙ ap (head.Strips p q) (same_count _ j k hg.number hh.number)
