-- What a value says stands in the words that spell it.
use Rattle.std.proofs.Common.{◌≡◌, ℕ, ◌+◌, List, Option, Some, None, decimal, refl, arith}
use Rattle.std.specs.Fmt.{signed_decimal}
use Rattle.std.proofs.lemmas.Int.{ints}
use Rattle.board_parts.specs.Owners.{IsOwner}
use Rattle.geo_rect.specs.declared.ids.Label.{Label}
use Rattle.geo_rect.specs.declared.ids.Label.TheVariants.{Free, One, Many}
use Rattle.geo_rect.specs.declared.ids.LayerId.{LayerId}
use Rattle.geo_rect.specs.declared.ids.NetId.{NetId}
use Rattle.geo_rect.specs.declared.ids.Node.{Node}
use Rattle.geo_rect.specs.declared.shapes.Rect.{Rect}
use Rattle.board_model.specs.declared.made.Leg.{Leg}
use Rattle.board_model.specs.declared.made.Leg.TheVariants as leg
use Rattle.board_parts.specs.declared.parts.BoardParts.{BoardParts}
use Rattle.board_model.specs.declared.shapes.Owned.{Owned}
use Rattle.board_model.specs.declared.shapes.Violation.{Violation}
use Rattle.board_model.specs.declared.shapes.Violation.TheVariants.{Close, Outline}
use Rattle.plane_core.specs.declared.strips.Strip.{Strip}
use Rattle.route_law.specs.declared.certs.Entry.{Entry}
use Rattle.route_law.specs.declared.certs.Origin.{Origin}
use Rattle.route_law.specs.declared.certs.Origin.TheVariants as origin
use Rattle.route_law.specs.Regular.{IsFromZero, IsRegularNode, IsRegularOrigin, IsRegularLabel}
use Rattle.board_parts.specs.Lookup.{layer_name}
use Rattle.reply_reader.specs.declared.heads.CertHead.{CertHead}
use Rattle.reply_reader.specs.declared.heads.ConnHead.{ConnHead}
use Rattle.reply_reader.specs.declared.heads.Head.{Head}
use Rattle.reply_reader.specs.declared.heads.Head.TheVariants as head
use Rattle.reply_reader.specs.declared.heads.NoneHead.{NoneHead}
use Rattle.reply_reader.specs.declared.heads.RouteHead.{RouteHead}
use Rattle.reply_reader.specs.InRange.{IsAreaInRange, IsNodeInRange, IsOriginInRange}
use Rattle.reply_reader.specs.Fields.{IsAreaAt, IsNodeAt}
use Rattle.reply_reader.specs.Forms.{word}
use Rattle.reply_reader.specs.Said.{conn_head, conn_head_words, IsConnHeadAt, start, start_words, IsStartAt, leg_line, leg_words, IsLegAt, cert_head, cert_head_words, IsCertHeadAt, entry_line, entry_words, IsEntryRestAt, IsEntryAt, none_head, none_head_words, IsNoneHeadAt, IsRouteHead, route_head_words, IsRouteHeadAt, IsHead, head_words, IsHeadAt, violation_line, violation_words, IsCloseAt, IsOutlineAt, IsViolationAt, strip_line, strip_words, IsStripAt}

node_at : (b : BoardParts) (ws : List (List ℕ)) (k : ℕ) (v : Node) → IsRegularNode b v → IsNodeInRange v
    → signed_decimal v.x ≡ word ws k → signed_decimal v.y ≡ word ws (k + 1) → layer_name b v.layer ≡ word ws (k + 2) → IsNodeAt b ws k v
node_at b ws k v g r x y l = record {
  across = record { from = g.across; to = r.across; spelled = x };
  up = record { from = g.up; to = r.up; spelled = y };
  known = g.layer;
  layer = l;
}

area_at : (ws : List (List ℕ)) (k : ℕ) (r : Rect) → IsFromZero r → IsAreaInRange r
    → signed_decimal r.x0 ≡ word ws k → signed_decimal r.y0 ≡ word ws (k + 1) → signed_decimal r.x1 ≡ word ws (k + 2) → signed_decimal r.y1 ≡ word ws (k + 3)
    → IsAreaAt ws k r
area_at ws k r g i x0 y0 x1 y1 = record {
  left = record { from = g.left; to = i.left; spelled = x0 };
  below = record { from = g.below; to = i.below; spelled = y0 };
  right = record { from = let o = r.x_ordered in let l = g.left in omega (arith, ints); to = i.right; spelled = x1 };
  above = record { from = let o = r.y_ordered in let l = g.below in omega (arith, ints); to = i.above; spelled = y1 };
}

pub conn_head_stands : (h : ConnHead) → conn_head.IsGood h → IsConnHeadAt (conn_head_words h) h
conn_head_stands h g = record {
  form = record { long = refl; keyword = refl };
  number = (refl, g.0);
  cost = (refl, g.1);
  legs = (refl, g.2);
}

pub start_stands : (b : BoardParts) (v : Node) → (start b).IsGood v → IsStartAt b (start_words b v) v
start_stands b v g = record {
  form = record { long = refl; keyword = refl };
  node = node_at b (start_words b v) 1 v g.0 g.1 refl refl refl;
}

pub leg_stands : (b : BoardParts) (l : Leg) → (leg_line b).IsGood l → IsLegAt b (leg_words b l) l
leg_stands b (leg.Wire v) g = record {
  form = record { long = refl; keyword = refl };
  node = node_at b (leg_words b (leg.Wire v)) 1 v g.0 g.1 refl refl refl;
}
leg_stands b (leg.Via k v) g = record {
  form = record { long = refl; keyword = refl };
  known = g.0.0;
  kind = refl;
  node = node_at b (leg_words b (leg.Via k v)) 2 v g.0.1 g.1 refl refl refl;
}

pub cert_head_stands : (h : CertHead) → cert_head.IsGood h → IsCertHeadAt (cert_head_words h) h
cert_head_stands h g = record {
  form = record { long = refl; keyword = refl };
  bound = record { spelled = refl; range = g.0 };
  entries = (refl, g.1);
}

rest_at : (b : BoardParts) (ws : List (List ℕ)) (k : ℕ) (e : Entry) → (entry_line b).IsGood e
    → layer_name b e.layer ≡ word ws k → IsAreaAt ws (k + 1) e.strip → IsAreaAt ws (k + 5) e.front → decimal e.cost ≡ word ws (k + 9)
    → IsEntryRestAt b ws k e
rest_at b ws k e g l s f c = record { known = g.0.layer; layer = l; strip = s; front = f; cost = (c, g.1.cost) }

pub entry_stands : (b : BoardParts) (e : Entry) → (entry_line b).IsGood e → IsEntryAt b (entry_words b e) e
entry_stands b e g = from e.origin g.0.kind g.1.source
  where
    from : (o : Origin) → IsRegularOrigin b o → IsOriginInRange o
        → let d : Entry = record { layer = e.layer; strip = e.strip; front = e.front; cost = e.cost; origin = o } in IsEntryAt b (entry_words b d) d
    from (origin.Source n) r i =
        let d : Entry = record { layer = e.layer; strip = e.strip; front = e.front; cost = e.cost; origin = origin.Source n } in
        let ws : List (List ℕ) = entry_words b d in
        record {
          source = record { form = record { long = refl; keyword = refl }; number = (refl, i) };
          rest = record {
            known = g.0.layer;
            layer = refl;
            strip = area_at ws 3 e.strip g.0.strip g.1.strip refl refl refl refl;
            front = area_at ws 7 e.front g.0.front g.1.front refl refl refl refl;
            cost = (refl, g.1.cost);
          };
        }
    from (origin.Step n) r i =
        let d : Entry = record { layer = e.layer; strip = e.strip; front = e.front; cost = e.cost; origin = origin.Step n } in
        let ws : List (List ℕ) = entry_words b d in
        record {
          source = record { form = record { long = refl; keyword = refl }; number = (refl, i) };
          rest = record {
            known = g.0.layer;
            layer = refl;
            strip = area_at ws 3 e.strip g.0.strip g.1.strip refl refl refl refl;
            front = area_at ws 7 e.front g.0.front g.1.front refl refl refl refl;
            cost = (refl, g.1.cost);
          };
        }
    from (origin.Via n k) r i =
        let d : Entry = record { layer = e.layer; strip = e.strip; front = e.front; cost = e.cost; origin = origin.Via n k } in
        let ws : List (List ℕ) = entry_words b d in
        record {
          source = record { form = record { long = refl; keyword = refl }; entry = (refl, i); known = r; kind = refl };
          rest = record {
            known = g.0.layer;
            layer = refl;
            strip = area_at ws 4 e.strip g.0.strip g.1.strip refl refl refl refl;
            front = area_at ws 8 e.front g.0.front g.1.front refl refl refl refl;
            cost = (refl, g.1.cost);
          };
        }

pub none_head_stands : (h : NoneHead) → none_head.IsGood h → IsNoneHeadAt (none_head_words h) h
none_head_stands h g = record { form = record { long = refl; keyword = refl }; number = (refl, g) }

pub route_head_stands : (b : BoardParts) (h : RouteHead) → IsRouteHead b h → IsRouteHeadAt b (route_head_words b h) h
route_head_stands b h g = record {
  form = record { long = refl; keyword = refl };
  net = record { known = g.0; net = refl };
  made_word = refl;
  made = refl;
  of_word = refl;
  missing = (refl, g.1);
  order = g.2;
}

pub head_stands : (b : BoardParts) (h : Head) → IsHead b h → IsHeadAt b (head_words b h) h
head_stands b (head.Route h) g = route_head_stands b h g
head_stands b (head.All n) g = record { form = record { long = refl; keyword = refl }; number = (refl, g.0); some = g.1 }
head_stands b (head.Rip n k) g = record {
  form = record { long = refl; keyword = refl };
  net = record { known = g.0; net = refl };
  removed_word = refl;
  number = (refl, g.1);
}
head_stands b (head.Show n needed k) g = record {
  form = record { long = refl; keyword = refl };
  net = record { known = g.0; net = refl };
  number = (refl, g.3);
  of_word = refl;
  all = (refl, g.2);
  board = g.1;
}
head_stands b (head.Rules k) g = record { form = record { long = refl; keyword = refl }; number = (refl, g) }
head_stands b (head.Strips l c k) g = record {
  form = record { long = refl; keyword = refl };
  known = g.0;
  layer = refl;
  known_class = g.1;
  class = refl;
  number = (refl, g.2);
}

pub close_stands : (b : BoardParts) (l : LayerId) (o q : Owned) → (violation_line b).IsGood (Close l o q) → IsCloseAt b (violation_words b (Close l o q)) l o q
close_stands b l o q g = from o.owner q.owner g.0.1.owner g.0.2.owner
  where
    from : (m n : Option NetId) → IsOwner b m → IsOwner b n
        → let p : Owned = record { owner = m; area = o.area } in let r : Owned = record { owner = n; area = q.area } in
        IsCloseAt b (violation_words b (Close l p r)) l p r
    from None None gm gn =
        let p : Owned = record { owner = None; area = o.area } in
        let r : Owned = record { owner = None; area = q.area } in
        let ws : List (List ℕ) = violation_words b (Close l p r) in
        record {
          keyword = refl;
          known = g.0.0;
          layer = refl;
          first = record { whose = refl; where_it_is = area_at ws 3 o.area g.0.1.area g.1.0.area refl refl refl refl };
          second = record { whose = refl; where_it_is = area_at ws 8 q.area g.0.2.area g.1.1.area refl refl refl refl };
          long = refl;
        }
    from None (Some n) gm gn =
        let p : Owned = record { owner = None; area = o.area } in
        let r : Owned = record { owner = Some n; area = q.area } in
        let ws : List (List ℕ) = violation_words b (Close l p r) in
        record {
          keyword = refl;
          known = g.0.0;
          layer = refl;
          first = record { whose = refl; where_it_is = area_at ws 3 o.area g.0.1.area g.1.0.area refl refl refl refl };
          second = record { whose = (refl, record { known = gn; net = refl }); where_it_is = area_at ws 9 q.area g.0.2.area g.1.1.area refl refl refl refl };
          long = refl;
        }
    from (Some m) None gm gn =
        let p : Owned = record { owner = Some m; area = o.area } in
        let r : Owned = record { owner = None; area = q.area } in
        let ws : List (List ℕ) = violation_words b (Close l p r) in
        record {
          keyword = refl;
          known = g.0.0;
          layer = refl;
          first = record { whose = (refl, record { known = gm; net = refl }); where_it_is = area_at ws 4 o.area g.0.1.area g.1.0.area refl refl refl refl };
          second = record { whose = refl; where_it_is = area_at ws 9 q.area g.0.2.area g.1.1.area refl refl refl refl };
          long = refl;
        }
    from (Some m) (Some n) gm gn =
        let p : Owned = record { owner = Some m; area = o.area } in
        let r : Owned = record { owner = Some n; area = q.area } in
        let ws : List (List ℕ) = violation_words b (Close l p r) in
        record {
          keyword = refl;
          known = g.0.0;
          layer = refl;
          first = record { whose = (refl, record { known = gm; net = refl }); where_it_is = area_at ws 4 o.area g.0.1.area g.1.0.area refl refl refl refl };
          second = record { whose = (refl, record { known = gn; net = refl }); where_it_is = area_at ws 10 q.area g.0.2.area g.1.1.area refl refl refl refl };
          long = refl;
        }

pub outline_stands : (b : BoardParts) (l : LayerId) (o : Owned) → (violation_line b).IsGood (Outline l o) → IsOutlineAt b (violation_words b (Outline l o)) l o
outline_stands b l o g = from o.owner g.0.1.owner
  where
    from : (m : Option NetId) → IsOwner b m
        → let p : Owned = record { owner = m; area = o.area } in IsOutlineAt b (violation_words b (Outline l p)) l p
    from None gm =
        let p : Owned = record { owner = None; area = o.area } in
        let ws : List (List ℕ) = violation_words b (Outline l p) in
        record {
          keyword = refl;
          known = g.0.0;
          layer = refl;
          shape = record { whose = refl; where_it_is = area_at ws 3 o.area g.0.1.area g.1.area refl refl refl refl };
          long = refl;
        }
    from (Some m) gm =
        let p : Owned = record { owner = Some m; area = o.area } in
        let ws : List (List ℕ) = violation_words b (Outline l p) in
        record {
          keyword = refl;
          known = g.0.0;
          layer = refl;
          shape = record { whose = (refl, record { known = gm; net = refl }); where_it_is = area_at ws 4 o.area g.0.1.area g.1.area refl refl refl refl };
          long = refl;
        }

pub violation_stands : (b : BoardParts) (v : Violation) → (violation_line b).IsGood v → IsViolationAt b (violation_words b v) v
violation_stands b (Close l o q) g = close_stands b l o q g
violation_stands b (Outline l o) g = outline_stands b l o g

pub strip_stands : (b : BoardParts) (s : Strip) → (strip_line b).IsGood s → IsStripAt b (strip_words b s) s
strip_stands b s g = from s.label g.0.label
  where
    from : (l : Label) → IsRegularLabel b l → let t : Strip = record { area = s.area; label = l } in IsStripAt b (strip_words b t) t
    from Free r =
        let t : Strip = record { area = s.area; label = Free } in
        record { free = record { long = refl; keyword = refl }; area = area_at (strip_words b t) 1 s.area g.0.area g.1.area refl refl refl refl }
    from (One n) r =
        let t : Strip = record { area = s.area; label = One n } in
        record {
          free = record { form = record { long = refl; keyword = refl }; net = record { known = r; net = refl } };
          area = area_at (strip_words b t) 2 s.area g.0.area g.1.area refl refl refl refl;
        }
    from Many r =
        let t : Strip = record { area = s.area; label = Many } in
        record { free = record { long = refl; keyword = refl }; area = area_at (strip_words b t) 1 s.area g.0.area g.1.area refl refl refl refl }
