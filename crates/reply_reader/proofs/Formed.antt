-- The lines of a text of replies are lines of words.
use Rattle.std.proofs.Common.{◌≡◌, ℕ, ℤ, pos, negsuc, ◌<◌, ◌≤◌, ◌≤ℤ◌, ◌^◌, List, [], ◌∷◌, ◌++◌, length, get_or, Option, Some, None, codes, decimal, refl, sym, ap, ◌∙◌, subst, arith, append_assoc, lit<, lit≤}
use Rattle.std.specs.Fmt.{signed_decimal}
use Rattle.std.specs.List.{AllByRecursion as ByRecursion}
use Rattle.std.proofs.lemmas.List.{append-nil}
use Rattle.std.proofs.lemmas.List.Elements.{All-from_recursion}
use Rattle.std.proofs.lemmas.Int.{ints}
use Rattle.board_parts.specs.Owners.{IsOwner}
use Rattle.reply_text.specs.Texts.{area_text, node_text, conn_line, at_line, wire_line, via_line, leg_text, cert_line, origin_text, entry_text, none_line, route_line, all_line, rip_line, show_line, rules_line, owned_text, close_line, outline_line, violation_text, strips_line, label_text, strip_text}
use Rattle.reply_reader.proofs.Decimals.{digits_above}
use Rattle.reply_reader.proofs.Standing.{conn_head_stands, start_stands, leg_stands, cert_head_stands, entry_stands, none_head_stands, route_head_stands, head_stands, violation_stands, strip_stands}
use Rattle.reply_reader.proofs.Alike.{same_conn_head, same_start, same_leg, same_cert_head, same_entry, same_none_head, same_route_head, same_head, same_violation, same_strip}
use Rattle.geo_rect.specs.declared.ids.ClassId.{ClassId}
use Rattle.geo_rect.specs.declared.ids.KindId.{KindId}
use Rattle.geo_rect.specs.declared.ids.Label.{Label}
use Rattle.geo_rect.specs.declared.ids.Label.TheVariants.{Free, One, Many}
use Rattle.geo_rect.specs.declared.ids.LayerId.{LayerId}
use Rattle.geo_rect.specs.declared.ids.NetId.{NetId}
use Rattle.geo_rect.specs.declared.ids.Node.{Node}
use Rattle.geo_rect.specs.declared.shapes.Rect.{Rect}
use Rattle.board_model.specs.declared.made.Leg.{Leg}
use Rattle.board_model.specs.declared.made.Leg.TheVariants as leg
use Rattle.board_parts.specs.declared.parts.BoardParts.{BoardParts}
use Rattle.board_model.specs.declared.shapes.Owned.{Owned}
use Rattle.board_model.specs.declared.shapes.Violation.{Violation}
use Rattle.board_model.specs.declared.shapes.Violation.TheVariants.{Close, Outline}
use Rattle.board_parts.specs.Rules.{IsBoard, AreNames}
use Rattle.plane_core.specs.declared.strips.Strip.{Strip}
use Rattle.route_law.specs.declared.certs.Entry.{Entry}
use Rattle.route_law.specs.declared.certs.Origin.{Origin}
use Rattle.route_law.specs.declared.certs.Origin.TheVariants as origin
use Rattle.route_law.specs.Regular.{IsLayerOf, IsKindOf, IsNetOf, IsFromZero, IsRegularNode, IsRegularOrigin, IsRegularOwned, IsRegularLabel}
use Rattle.board_parts.specs.Lookup.{layer_name, class_name, kind_name, net_name}
use Rattle.reply_text.specs.Texts.{bound_text}
use Rattle.reply_reader.specs.declared.heads.Head.{Head}
use Rattle.reply_reader.specs.declared.heads.Head.TheVariants as head
use Rattle.reply_reader.specs.declared.heads.RouteHead.{RouteHead}
use Rattle.reply_reader.specs.InRange.{IsCoordinate, IsCount, IsCost, IsAreaInRange, IsNodeInRange, IsOriginInRange, IsBoundInRange, IsOwnedInRange}
use Rattle.reply_reader.specs.Fields.{IsClassOf}
use Rattle.reply_reader.specs.Forms.{IsLineWord, spaced, IsLineForm}
use Rattle.reply_reader.specs.Said.{conn_head, conn_head_words, IsConnHeadAt, start, node_words, start_words, IsStartAt, leg_line, leg_words, IsLegAt, cert_head, cert_head_words, IsCertHeadAt, entry_line, area_words, entry_rest_words, origin_words, entry_words, IsEntryAt, none_head, none_head_words, IsNoneHeadAt, IsRouteHead, route_head, route_head_words, IsRouteHeadAt, IsHead, head_text, head_line, head_words, IsHeadAt, violation_line, owner_words, owned_words, violation_words, IsViolationAt, strip_line, label_words, strip_words, IsStripAt}

-- digits are no spaces and no line feeds
clean_digits : (ds : List ℕ) → ByRecursion (λ c. 48 ≤ c) ds → ByRecursion (λ c. 32 < c) ds
clean_digits [] h = tt
clean_digits (d ∷ ds) h = (let a = h.0 in omega arith, clean_digits ds h.1)

clean_decimal : (n : ℕ) → n < 10 ^ 64 → IsLineWord (decimal n)
clean_decimal n lt = All-from_recursion (λ c. 32 < c) (decimal n) (clean_digits (decimal n) (digits_above n lt))

clean_count : (n : ℕ) → IsCount n → IsLineWord (decimal n)
clean_count n lt = clean_decimal n (omega arith)

clean_cost : (n : ℕ) → IsCost n → IsLineWord (decimal n)
clean_cost n lt = clean_decimal n (omega arith)

clean_signed : (z : ℤ) → pos 0 ≤ℤ z → IsCoordinate z → IsLineWord (signed_decimal z)
clean_signed (pos n) from to = clean_decimal n (omega (arith, ints))
clean_signed (negsuc n) from to = absurd (omega (arith, ints))

clean_name : (most : ℕ) (names : List (List ℕ)) → AreNames most names → (k : ℕ) → k < length names → IsLineWord (get_or names k [])
clean_name most names are k lt i d in_word = let h = (are.each k [] lt).word i d in_word in let from = h.from in omega arith

clean_layer : (b : BoardParts) → IsBoard b → (l : LayerId) → IsLayerOf b l → IsLineWord (layer_name b l)
clean_layer b kept l lt = clean_name _ b.layers kept.layers l.0 lt

clean_class : (b : BoardParts) → IsBoard b → (l : ClassId) → IsClassOf b l → IsLineWord (class_name b l)
clean_class b kept l lt = clean_name _ b.classes kept.classes l.0 lt

clean_kind : (b : BoardParts) → IsBoard b → (l : KindId) → IsKindOf b l → IsLineWord (kind_name b l)
clean_kind b kept l lt = clean_name _ b.kind_names kept.kind_names l.0 lt

clean_net : (b : BoardParts) → IsBoard b → (l : NetId) → IsNetOf b l → IsLineWord (net_name b l)
clean_net b kept l lt = clean_name _ b.net_names kept.net_names l.0 lt

-- the words that are written out
clean_word_conn : IsLineWord (codes "conn")
clean_word_conn = All-from_recursion (λ c. 32 < c) (codes "conn") (lit< tt, (lit< tt, (lit< tt, (lit< tt, tt))))

clean_word_at : IsLineWord (codes "at")
clean_word_at = All-from_recursion (λ c. 32 < c) (codes "at") (lit< tt, (lit< tt, tt))

clean_word_to : IsLineWord (codes "to")
clean_word_to = All-from_recursion (λ c. 32 < c) (codes "to") (lit< tt, (lit< tt, tt))

clean_word_via : IsLineWord (codes "via")
clean_word_via = All-from_recursion (λ c. 32 < c) (codes "via") (lit< tt, (lit< tt, (lit< tt, tt)))

clean_word_cert : IsLineWord (codes "cert")
clean_word_cert = All-from_recursion (λ c. 32 < c) (codes "cert") (lit< tt, (lit< tt, (lit< tt, (lit< tt, tt))))

clean_dash : IsLineWord (codes "-")
clean_dash = All-from_recursion (λ c. 32 < c) (codes "-") (lit< tt, tt)

clean_word_src : IsLineWord (codes "src")
clean_word_src = All-from_recursion (λ c. 32 < c) (codes "src") (lit< tt, (lit< tt, (lit< tt, tt)))

clean_word_step : IsLineWord (codes "step")
clean_word_step = All-from_recursion (λ c. 32 < c) (codes "step") (lit< tt, (lit< tt, (lit< tt, (lit< tt, tt))))

clean_word_none : IsLineWord (codes "none")
clean_word_none = All-from_recursion (λ c. 32 < c) (codes "none") (lit< tt, (lit< tt, (lit< tt, (lit< tt, tt))))

clean_word_route : IsLineWord (codes "route")
clean_word_route = All-from_recursion (λ c. 32 < c) (codes "route") (lit< tt, (lit< tt, (lit< tt, (lit< tt, (lit< tt, tt)))))

clean_word_made : IsLineWord (codes "made")
clean_word_made = All-from_recursion (λ c. 32 < c) (codes "made") (lit< tt, (lit< tt, (lit< tt, (lit< tt, tt))))

clean_word_of : IsLineWord (codes "of")
clean_word_of = All-from_recursion (λ c. 32 < c) (codes "of") (lit< tt, (lit< tt, tt))

clean_word_all : IsLineWord (codes "all")
clean_word_all = All-from_recursion (λ c. 32 < c) (codes "all") (lit< tt, (lit< tt, (lit< tt, tt)))

clean_word_rip : IsLineWord (codes "rip")
clean_word_rip = All-from_recursion (λ c. 32 < c) (codes "rip") (lit< tt, (lit< tt, (lit< tt, tt)))

clean_word_removed : IsLineWord (codes "removed")
clean_word_removed = All-from_recursion (λ c. 32 < c) (codes "removed") (lit< tt, (lit< tt, (lit< tt, (lit< tt, (lit< tt, (lit< tt, (lit< tt, tt)))))))

clean_word_show : IsLineWord (codes "show")
clean_word_show = All-from_recursion (λ c. 32 < c) (codes "show") (lit< tt, (lit< tt, (lit< tt, (lit< tt, tt))))

clean_word_rules : IsLineWord (codes "rules")
clean_word_rules = All-from_recursion (λ c. 32 < c) (codes "rules") (lit< tt, (lit< tt, (lit< tt, (lit< tt, (lit< tt, tt)))))

clean_word_close : IsLineWord (codes "close")
clean_word_close = All-from_recursion (λ c. 32 < c) (codes "close") (lit< tt, (lit< tt, (lit< tt, (lit< tt, (lit< tt, tt)))))

clean_word_outline : IsLineWord (codes "outline")
clean_word_outline = All-from_recursion (λ c. 32 < c) (codes "outline") (lit< tt, (lit< tt, (lit< tt, (lit< tt, (lit< tt, (lit< tt, (lit< tt, tt)))))))

clean_word_block : IsLineWord (codes "block")
clean_word_block = All-from_recursion (λ c. 32 < c) (codes "block") (lit< tt, (lit< tt, (lit< tt, (lit< tt, (lit< tt, tt)))))

clean_word_net : IsLineWord (codes "net")
clean_word_net = All-from_recursion (λ c. 32 < c) (codes "net") (lit< tt, (lit< tt, (lit< tt, tt)))

clean_word_strips : IsLineWord (codes "strips")
clean_word_strips = All-from_recursion (λ c. 32 < c) (codes "strips") (lit< tt, (lit< tt, (lit< tt, (lit< tt, (lit< tt, (lit< tt, tt))))))

clean_word_free : IsLineWord (codes "free")
clean_word_free = All-from_recursion (λ c. 32 < c) (codes "free") (lit< tt, (lit< tt, (lit< tt, (lit< tt, tt))))

clean_word_one : IsLineWord (codes "one")
clean_word_one = All-from_recursion (λ c. 32 < c) (codes "one") (lit< tt, (lit< tt, (lit< tt, tt)))

clean_word_many : IsLineWord (codes "many")
clean_word_many = All-from_recursion (λ c. 32 < c) (codes "many") (lit< tt, (lit< tt, (lit< tt, (lit< tt, tt))))

clean_area : (r : Rect) → IsFromZero r → IsAreaInRange r → (rest : List (List ℕ)) → ByRecursion IsLineWord rest → ByRecursion IsLineWord (area_words r ++ rest)
clean_area r g i rest h = (
  clean_signed r.x0 g.left i.left,
  (
    clean_signed r.y0 g.below i.below,
    (
      clean_signed r.x1 (let o = r.x_ordered in let l = g.left in omega (arith, ints)) i.right,
      (clean_signed r.y1 (let o = r.y_ordered in let l = g.below in omega (arith, ints)) i.above, h),
    ),
  ),
)

clean_node : (b : BoardParts) → IsBoard b → (v : Node) → IsRegularNode b v → IsNodeInRange v → ByRecursion IsLineWord (node_words b v)
clean_node b kept v g i =
    (clean_signed v.x g.across i.across, (clean_signed v.y g.up i.up, (clean_layer b kept v.layer g.layer, tt)))

-- the words, with a space before each, and what follows, grouped to the right
abbrev nested : List (List ℕ) → List ℕ → List ℕ
nested [] t = t
nested (w ∷ ws) t = 32 ∷ (w ++ nested ws t)

spaced_nested : (ws : List (List ℕ)) (t : List ℕ) → spaced ws ++ t ≡ nested ws t
spaced_nested [] t = refl
spaced_nested (w ∷ ws) t = ap (λ (l : List ℕ). 32 ∷ l) (append_assoc w (spaced ws) t ∙ ap (λ (l : List ℕ). w ++ l) (spaced_nested ws t))

nested_append : (ws vs : List (List ℕ)) (t : List ℕ) → nested (ws ++ vs) t ≡ nested ws (nested vs t)
nested_append [] vs t = refl
nested_append (w ∷ ws) vs t = ap (λ (l : List ℕ). 32 ∷ (w ++ l)) (nested_append ws vs t)

group3 : (a b c : List ℕ) → (a ++ b) ++ c ≡ a ++ (b ++ c)
group3 a b c = simp append_assoc

group4 : (a b c d : List ℕ) → ((a ++ b) ++ c) ++ d ≡ a ++ (b ++ (c ++ d))
group4 a b c d = simp append_assoc

group5 : (a b c d e : List ℕ) → (((a ++ b) ++ c) ++ d) ++ e ≡ a ++ (b ++ (c ++ (d ++ e)))
group5 a b c d e = simp append_assoc

group7 : (a b c d e f g : List ℕ) → (((((a ++ b) ++ c) ++ d) ++ e) ++ f) ++ g ≡ a ++ (b ++ (c ++ (d ++ (e ++ (f ++ g)))))
group7 a b c d e f g = simp append_assoc

group8 : (a b c d e f g h : List ℕ) → ((((((a ++ b) ++ c) ++ d) ++ e) ++ f) ++ g) ++ h ≡ a ++ (b ++ (c ++ (d ++ (e ++ (f ++ (g ++ h))))))
group8 a b c d e f g h = simp append_assoc

group9 : (a b c d e f g h i : List ℕ) → (((((((a ++ b) ++ c) ++ d) ++ e) ++ f) ++ g) ++ h) ++ i ≡ a ++ (b ++ (c ++ (d ++ (e ++ (f ++ (g ++ (h ++ i)))))))
group9 a b c d e f g h i = simp append_assoc

-- a line grouped to the right is the line of its words
spelled_by : (line : List ℕ) (ws : List (List ℕ)) → line ≡ nested ws (10 ∷ []) → line ≡ spaced ws ++ 10 ∷ []
spelled_by line ws e = e ∙ sym (spaced_nested ws (10 ∷ []))

after_space : {s t : List ℕ} → s ≡ t → 32 ∷ s ≡ 32 ∷ t
after_space e = ap (λ (l : List ℕ). 32 ∷ l) e

area_nested : (r : Rect) (t : List ℕ) → area_text r ++ t ≡ nested (area_words r) t
unfolding area_text
area_nested r t = group9 (codes " ") (signed_decimal r.x0) (codes " ") (signed_decimal r.y0) (codes " ") (signed_decimal r.x1) (codes " ") (signed_decimal r.y1) t

node_nested : (b : BoardParts) (v : Node) (t : List ℕ) → node_text b v ++ t ≡ nested (node_words b v) t
unfolding node_text
node_nested b v t = group7 (codes " ") (signed_decimal v.x) (codes " ") (signed_decimal v.y) (codes " ") (layer_name b v.layer) t

conn_spelled : (n c l : ℕ) → 32 ∷ conn_line n c l ≡ spaced (codes "conn" ∷ decimal n ∷ decimal c ∷ decimal l ∷ []) ++ 10 ∷ []
unfolding conn_line
conn_spelled n c l = spelled_by _ (codes "conn" ∷ decimal n ∷ decimal c ∷ decimal l ∷ [])
    (after_space (group7 (codes "conn ") (decimal n) (codes " ") (decimal c) (codes " ") (decimal l) (codes "\n")))

at_spelled : (b : BoardParts) (v : Node) → 32 ∷ at_line b v ≡ spaced (start_words b v) ++ 10 ∷ []
unfolding at_line
at_spelled b v = spelled_by _ (start_words b v)
    (after_space (group3 (codes "at") (node_text b v) (codes "\n") ∙ ap (λ (l : List ℕ). codes "at" ++ l) (node_nested b v (codes "\n"))))

wire_spelled : (b : BoardParts) (v : Node) → 32 ∷ wire_line b v ≡ spaced (leg_words b (leg.Wire v)) ++ 10 ∷ []
unfolding wire_line
wire_spelled b v = spelled_by _ (leg_words b (leg.Wire v))
    (after_space (group3 (codes "to") (node_text b v) (codes "\n") ∙ ap (λ (l : List ℕ). codes "to" ++ l) (node_nested b v (codes "\n"))))

via_spelled : (b : BoardParts) (k : KindId) (v : Node) → 32 ∷ via_line b k v ≡ spaced (leg_words b (leg.Via k v)) ++ 10 ∷ []
unfolding via_line
via_spelled b k v = spelled_by _ (leg_words b (leg.Via k v))
    (after_space (group4 (codes "via ") (kind_name b k) (node_text b v) (codes "\n")
    ∙ ap (λ (l : List ℕ). codes "via " ++ (kind_name b k ++ l)) (node_nested b v (codes "\n"))))

cert_spelled : (o : Option ℕ) (n : ℕ) → 32 ∷ cert_line o n ≡ spaced (codes "cert" ∷ bound_text o ∷ decimal n ∷ []) ++ 10 ∷ []
unfolding cert_line
cert_spelled o n = spelled_by _ (codes "cert" ∷ bound_text o ∷ decimal n ∷ [])
    (after_space (group5 (codes "cert ") (bound_text o) (codes " ") (decimal n) (codes "\n")))

none_spelled : (n : ℕ) → 32 ∷ none_line n ≡ spaced (codes "none" ∷ decimal n ∷ []) ++ 10 ∷ []
unfolding none_line
none_spelled n = spelled_by _ (codes "none" ∷ decimal n ∷ []) (after_space (group3 (codes "none ") (decimal n) (codes "\n")))

route_spelled : (b : BoardParts) (n : NetId) (m k : ℕ)
    → 32 ∷ route_line b n m k ≡ spaced (codes "route" ∷ net_name b n ∷ codes "made" ∷ decimal m ∷ codes "of" ∷ decimal k ∷ []) ++ 10 ∷ []
unfolding route_line
route_spelled b n m k = spelled_by _ (codes "route" ∷ net_name b n ∷ codes "made" ∷ decimal m ∷ codes "of" ∷ decimal k ∷ [])
    (after_space (group7 (codes "route ") (net_name b n) (codes " made ") (decimal m) (codes " of ") (decimal k) (codes "\n")))

head_spelled : (b : BoardParts) (h : Head) → 32 ∷ head_text b h ≡ spaced (head_words b h) ++ 10 ∷ []
unfolding all_line rip_line show_line rules_line strips_line
head_spelled b (head.Route h) = route_spelled b h.net h.made h.missing
head_spelled b (head.All n) = spelled_by _ (head_words b (head.All n)) (after_space (group3 (codes "all ") (decimal n) (codes "\n")))
head_spelled b (head.Rip n k) = spelled_by _ (head_words b (head.Rip n k))
    (after_space (group5 (codes "rip ") (net_name b n) (codes " removed ") (decimal k) (codes "\n")))
head_spelled b (head.Show n needed k) = spelled_by _ (head_words b (head.Show n needed k))
    (after_space (group7 (codes "show ") (net_name b n) (codes " ") (decimal k) (codes " of ") (decimal needed) (codes "\n")))
head_spelled b (head.Rules k) = spelled_by _ (head_words b (head.Rules k)) (after_space (group3 (codes "rules ") (decimal k) (codes "\n")))
head_spelled b (head.Strips l c k) = spelled_by _ (head_words b (head.Strips l c k))
    (after_space (group7 (codes "strips ") (layer_name b l) (codes " ") (class_name b c) (codes " ") (decimal k) (codes "\n")))

origin_nested : (b : BoardParts) (o : Origin) (t : List ℕ) → 32 ∷ (origin_text b o ++ t) ≡ nested (origin_words b o) t
origin_nested b (origin.Source n) t = refl
origin_nested b (origin.Step n) t = refl
origin_nested b (origin.Via n k) t = after_space (group5 (codes "via ") (decimal n) (codes " ") (kind_name b k) t)

entry_spelled : (b : BoardParts) (e : Entry) → 32 ∷ entry_text b e ≡ spaced (entry_words b e) ++ 10 ∷ []
unfolding entry_text
entry_spelled b e =
    let end : List ℕ = codes " " ++ (decimal e.cost ++ codes "\n") in
    let areas : area_text e.strip ++ (area_text e.front ++ end) ≡ nested (area_words e.strip) (nested (area_words e.front) end) =
    area_nested e.strip (area_text e.front ++ end) ∙ ap (nested (area_words e.strip)) (area_nested e.front end) in
    let line : origin_text b e.origin ++ codes " " ++ layer_name b e.layer ++ area_text e.strip ++ area_text e.front ++ codes " " ++ decimal e.cost ++ codes "\n"
    ≡ origin_text b e.origin ++ (codes " " ++ (layer_name b e.layer ++ (area_text e.strip ++ (area_text e.front ++ end)))) =
    group8 (origin_text b e.origin) (codes " ") (layer_name b e.layer) (area_text e.strip) (area_text e.front) (codes " ") (decimal e.cost) (codes "\n") in
    spelled_by _ (entry_words b e)
    (after_space (line ∙ ap (λ (l : List ℕ). origin_text b e.origin ++ (codes " " ++ (layer_name b e.layer ++ l))) areas)
    ∙ origin_nested b e.origin (nested (entry_rest_words b e) (10 ∷ []))
    ∙ sym (nested_append (origin_words b e.origin) (entry_rest_words b e) (10 ∷ [])))

owned_nested : (b : BoardParts) (m : Option NetId) (r : Rect) (t : List ℕ)
    → let o : Owned = record { owner = m; area = r } in 32 ∷ (owned_text b o ++ t) ≡ nested (owned_words b o) t
unfolding owned_text
owned_nested b None r t = after_space (group3 (codes "block") (area_text r) t ∙ ap (λ (l : List ℕ). codes "block" ++ l) (area_nested r t))
owned_nested b (Some n) r t =
    after_space (group4 (codes "net ") (net_name b n) (area_text r) t ∙ ap (λ (l : List ℕ). codes "net " ++ (net_name b n ++ l)) (area_nested r t))

close_spelled : (b : BoardParts) (l : LayerId) (o q : Owned) → 32 ∷ close_line b l o q ≡ spaced (violation_words b (Close l o q)) ++ 10 ∷ []
unfolding close_line
close_spelled b l o q =
    let second : codes " " ++ (owned_text b q ++ codes "\n") ≡ nested (owned_words b q) (10 ∷ []) = owned_nested b q.owner q.area (10 ∷ []) in
    let both : codes " " ++ (owned_text b o ++ (codes " " ++ (owned_text b q ++ codes "\n"))) ≡ nested (owned_words b o ++ owned_words b q) (10 ∷ []) =
    owned_nested b o.owner o.area (codes " " ++ (owned_text b q ++ codes "\n"))
    ∙ ap (nested (owned_words b o)) second ∙ sym (nested_append (owned_words b o) (owned_words b q) (10 ∷ [])) in
    spelled_by _ (violation_words b (Close l o q))
    (after_space (group7 (codes "close ") (layer_name b l) (codes " ") (owned_text b o) (codes " ") (owned_text b q) (codes "\n")
    ∙ ap (λ (t : List ℕ). codes "close " ++ (layer_name b l ++ t)) both))

outline_spelled : (b : BoardParts) (l : LayerId) (o : Owned) → 32 ∷ outline_line b l o ≡ spaced (violation_words b (Outline l o)) ++ 10 ∷ []
unfolding outline_line
outline_spelled b l o =
    spelled_by _ (violation_words b (Outline l o))
    (after_space (group5 (codes "outline ") (layer_name b l) (codes " ") (owned_text b o) (codes "\n")
    ∙ ap (λ (t : List ℕ). codes "outline " ++ (layer_name b l ++ t)) (owned_nested b o.owner o.area (10 ∷ []))))

label_nested : (b : BoardParts) (l : Label) (t : List ℕ) → 32 ∷ (label_text b l ++ t) ≡ nested (label_words b l) t
label_nested b Free t = refl
label_nested b (One n) t = refl
label_nested b Many t = refl

strip_spelled : (b : BoardParts) (s : Strip) → 32 ∷ strip_text b s ≡ spaced (strip_words b s) ++ 10 ∷ []
unfolding strip_text
strip_spelled b s =
    spelled_by _ (strip_words b s)
    (after_space (group3 (label_text b s.label) (area_text s.area) (codes "\n") ∙ ap (λ (l : List ℕ). label_text b s.label ++ l) (area_nested s.area (codes "\n")))
    ∙ label_nested b s.label (nested (area_words s.area) (10 ∷ []))
    ∙ sym (nested_append (label_words b s.label) (area_words s.area) (10 ∷ [])))

leg_spelled : (b : BoardParts) (l : Leg) → 32 ∷ leg_text b l ≡ spaced (leg_words b l) ++ 10 ∷ []
leg_spelled b (leg.Wire v) = wire_spelled b v
leg_spelled b (leg.Via k v) = via_spelled b k v

violation_spelled : (b : BoardParts) (v : Violation) → 32 ∷ violation_text b v ≡ spaced (violation_words b v) ++ 10 ∷ []
violation_spelled b (Close l o q) = close_spelled b l o q
violation_spelled b (Outline l o) = outline_spelled b l o

leg_clean : (b : BoardParts) → IsBoard b → (l : Leg) → (leg_line b).IsGood l → ByRecursion IsLineWord (leg_words b l)
leg_clean b kept (leg.Wire v) g = (clean_word_to, clean_node b kept v g.0 g.1)
leg_clean b kept (leg.Via k v) g = (clean_word_via, (clean_kind b kept k g.0.0, clean_node b kept v g.0.1 g.1))

bound_clean : (o : Option ℕ) → IsBoundInRange o → IsLineWord (bound_text o)
bound_clean None r = clean_dash
bound_clean (Some n) r = clean_cost n r

entry_clean : (b : BoardParts) → IsBoard b → (e : Entry) → (entry_line b).IsGood e → ByRecursion IsLineWord (entry_words b e)
entry_clean b kept e g = from e.origin g.0.kind g.1.source
  where
    rest : ByRecursion IsLineWord (entry_rest_words b e)
    rest = (
      clean_layer b kept e.layer g.0.layer,
      clean_area e.strip g.0.strip g.1.strip (area_words e.front ++ decimal e.cost ∷ [])
          (clean_area e.front g.0.front g.1.front (decimal e.cost ∷ []) (clean_cost e.cost g.1.cost, tt)),
    )

    from : (o : Origin) → IsRegularOrigin b o → IsOriginInRange o → ByRecursion IsLineWord (origin_words b o ++ entry_rest_words b e)
    from (origin.Source n) r i = (clean_word_src, (clean_count n i, rest))
    from (origin.Step n) r i = (clean_word_step, (clean_count n i, rest))
    from (origin.Via n k) r i = (clean_word_via, (clean_count n i, (clean_kind b kept k r, rest)))

route_clean : (b : BoardParts) → IsBoard b → (h : RouteHead) → IsRouteHead b h → ByRecursion IsLineWord (route_head_words b h)
route_clean b kept h g = (
  clean_word_route,
  (
    clean_net b kept h.net g.0,
    (
      clean_word_made,
      (
        clean_count h.made (let m = g.1 in let l = g.2 in omega arith),
        (clean_word_of, (clean_count h.missing g.1, tt)),
      ),
    ),
  ),
)

head_clean : (b : BoardParts) → IsBoard b → (h : Head) → IsHead b h → ByRecursion IsLineWord (head_words b h)
head_clean b kept (head.Route h) g = route_clean b kept h g
head_clean b kept (head.All n) g = (clean_word_all, (clean_count n g.0, tt))
head_clean b kept (head.Rip n k) g = (clean_word_rip, (clean_net b kept n g.0, (clean_word_removed, (clean_count k g.1, tt))))
head_clean b kept (head.Show n needed k) g =
    (clean_word_show, (clean_net b kept n g.0, (clean_count k g.3, (clean_word_of, (clean_count needed g.2, tt)))))
head_clean b kept (head.Rules k) g = (clean_word_rules, (clean_count k g, tt))
head_clean b kept (head.Strips l c k) g =
    (clean_word_strips, (clean_layer b kept l g.0, (clean_class b kept c g.1, (clean_count k g.2, tt))))

owner_clean : (b : BoardParts) → IsBoard b → (o : Option NetId) → IsOwner b o → (rest : List (List ℕ)) → ByRecursion IsLineWord rest
    → ByRecursion IsLineWord (owner_words b o ++ rest)
owner_clean b kept None h rest r = (clean_word_block, r)
owner_clean b kept (Some n) h rest r = (clean_word_net, (clean_net b kept n h, r))

owned_clean : (b : BoardParts) → IsBoard b → (o : Owned) → IsRegularOwned b o → IsOwnedInRange o → (rest : List (List ℕ)) → ByRecursion IsLineWord rest
    → ByRecursion IsLineWord (owned_words b o ++ rest)
owned_clean b kept o g i rest r =
    subst (ByRecursion IsLineWord) (sym (append_assoc (owner_words b o.owner) (area_words o.area) rest))
    (owner_clean b kept o.owner g.owner (area_words o.area ++ rest) (clean_area o.area g.area i.area rest r))

violation_clean : (b : BoardParts) → IsBoard b → (v : Violation) → (violation_line b).IsGood v → ByRecursion IsLineWord (violation_words b v)
violation_clean b kept (Close l o q) g = (
  clean_word_close,
  (
    clean_layer b kept l g.0.0,
    owned_clean b kept o g.0.1 g.1.0 (owned_words b q)
        (subst (ByRecursion IsLineWord) (append-nil (owned_words b q)) (owned_clean b kept q g.0.2 g.1.1 [] tt)),
  ),
)
violation_clean b kept (Outline l o) g = (
  clean_word_outline,
  (
    clean_layer b kept l g.0.0,
    subst (ByRecursion IsLineWord) (append-nil (owned_words b o)) (owned_clean b kept o g.0.1 g.1 [] tt),
  ),
)

strip_clean : (b : BoardParts) → IsBoard b → (s : Strip) → (strip_line b).IsGood s → ByRecursion IsLineWord (strip_words b s)
strip_clean b kept s g = from s.label g.0.label
  where
    corners : ByRecursion IsLineWord (area_words s.area)
    corners = clean_area s.area g.0.area g.1.area [] tt

    from : (l : Label) → IsRegularLabel b l → ByRecursion IsLineWord (label_words b l ++ area_words s.area)
    from Free r = (clean_word_free, corners)
    from (One n) r = (clean_word_one, (clean_net b kept n r, corners))
    from Many r = (clean_word_many, corners)

leg_few : (b : BoardParts) (l : Leg) → length (leg_words b l) ≤ 14
leg_few b (leg.Wire v) = lit≤ tt
leg_few b (leg.Via k v) = lit≤ tt

origin_few : (b : BoardParts) (o : Origin) (e : Entry) → length (origin_words b o ++ entry_rest_words b e) ≤ 14
origin_few b (origin.Source n) e = lit≤ tt
origin_few b (origin.Step n) e = lit≤ tt
origin_few b (origin.Via n k) e = lit≤ tt

head_few : (b : BoardParts) (h : Head) → length (head_words b h) ≤ 14
head_few b (head.Route h) = lit≤ tt
head_few b (head.All n) = lit≤ tt
head_few b (head.Rip n k) = lit≤ tt
head_few b (head.Show n needed k) = lit≤ tt
head_few b (head.Rules k) = lit≤ tt
head_few b (head.Strips l c k) = lit≤ tt

close_few : (b : BoardParts) (l : LayerId) (m n : Option NetId) (r s : Rect)
    → let o : Owned = record { owner = m; area = r } in let q : Owned = record { owner = n; area = s } in length (violation_words b (Close l o q)) ≤ 14
close_few b l None None r s = lit≤ tt
close_few b l None (Some n) r s = lit≤ tt
close_few b l (Some m) None r s = lit≤ tt
close_few b l (Some m) (Some n) r s = lit≤ tt

outline_few : (b : BoardParts) (l : LayerId) (m : Option NetId) (r : Rect)
    → let o : Owned = record { owner = m; area = r } in length (violation_words b (Outline l o)) ≤ 14
outline_few b l None r = lit≤ tt
outline_few b l (Some m) r = lit≤ tt

violation_few : (b : BoardParts) (v : Violation) → length (violation_words b v) ≤ 14
violation_few b (Close l o q) = close_few b l o.owner q.owner o.area q.area
violation_few b (Outline l o) = outline_few b l o.owner o.area

label_few : (b : BoardParts) (l : Label) (r : Rect) → length (label_words b l ++ area_words r) ≤ 14
label_few b Free r = lit≤ tt
label_few b (One n) r = lit≤ tt
label_few b Many r = lit≤ tt

-- the origin on the first layer
corner : Node
corner = record { x = pos 0; y = pos 0; layer = record { 0 = 0 } }

corner_good : (b : BoardParts) → IsBoard b → (start b).IsGood corner
unfolding corner
corner_good b kept = (record { layer = kept.some_layer; across = omega (arith, ints); up = omega (arith, ints) }, record { across = omega (arith, ints); up = omega (arith, ints) })

-- the rectangle of the origin alone
point : Rect
point = record { x0 = pos 0; y0 = pos 0; x1 = pos 0; y1 = pos 0; x_ordered = omega (arith, ints); y_ordered = omega (arith, ints) }

point_from : IsFromZero point
unfolding point
point_from = record { left = omega (arith, ints); below = omega (arith, ints) }

point_in : IsAreaInRange point
unfolding point
point_in = record { left = omega (arith, ints); below = omega (arith, ints); right = omega (arith, ints); above = omega (arith, ints) }

pub conn_head_form : IsLineForm conn_head conn_head_words
conn_head_form = record {
  some = record { value = record { number = 0; cost = 0; legs = 0 }; good = (lit< tt, lit< tt, lit< tt) };
  spelled = λ x g. conn_spelled x.number x.cost x.legs;
  clean = λ x g. All-from_recursion IsLineWord (conn_head_words x) (clean_word_conn, (clean_count x.number g.0, (clean_cost x.cost g.1, (clean_count x.legs g.2, tt))));
  few = λ x g. lit≤ tt;
  same = λ x y gx gy e. same_conn_head (conn_head_words y) x y (subst (λ (ws : List (List ℕ)). IsConnHeadAt ws x) e (conn_head_stands x gx)) (conn_head_stands y gy);
}

pub start_form : (b : BoardParts) → IsBoard b → IsLineForm (start b) (start_words b)
start_form b kept = record {
  some = record { value = corner; good = corner_good b kept };
  spelled = λ x g. at_spelled b x;
  clean = λ x g. All-from_recursion IsLineWord (start_words b x) (clean_word_at, clean_node b kept x g.0 g.1);
  few = λ x g. lit≤ tt;
  same = λ x y gx gy e. same_start b kept (start_words b y) x y (subst (λ (ws : List (List ℕ)). IsStartAt b ws x) e (start_stands b x gx)) (start_stands b y gy);
}

pub leg_form : (b : BoardParts) → IsBoard b → IsLineForm (leg_line b) (leg_words b)
leg_form b kept = record {
  some = record { value = leg.Wire corner; good = corner_good b kept };
  spelled = λ x g. leg_spelled b x;
  clean = λ x g. All-from_recursion IsLineWord (leg_words b x) (leg_clean b kept x g);
  few = λ x g. leg_few b x;
  same = λ x y gx gy e. same_leg b kept (leg_words b y) x y (subst (λ (ws : List (List ℕ)). IsLegAt b ws x) e (leg_stands b x gx)) (leg_stands b y gy);
}

pub cert_head_form : IsLineForm cert_head cert_head_words
cert_head_form = record {
  some = record { value = record { bound = None; entries = 0 }; good = (tt, lit< tt) };
  spelled = λ x g. cert_spelled x.bound x.entries;
  clean = λ x g. All-from_recursion IsLineWord (cert_head_words x) (clean_word_cert, (bound_clean x.bound g.0, (clean_count x.entries g.1, tt)));
  few = λ x g. lit≤ tt;
  same = λ x y gx gy e. same_cert_head (cert_head_words y) x y (subst (λ (ws : List (List ℕ)). IsCertHeadAt ws x) e (cert_head_stands x gx)) (cert_head_stands y gy);
}

pub entry_form : (b : BoardParts) → IsBoard b → IsLineForm (entry_line b) (entry_words b)
entry_form b kept = record {
  some = record {
    value = record { layer = record { 0 = 0 }; strip = point; front = point; cost = 0; origin = origin.Source 0 };
    good = (
      record { layer = kept.some_layer; strip = point_from; front = point_from; kind = tt },
      record { source = lit< tt; strip = point_in; front = point_in; cost = lit< tt },
    );
  };
  spelled = λ x g. entry_spelled b x;
  clean = λ x g. All-from_recursion IsLineWord (entry_words b x) (entry_clean b kept x g);
  few = λ x g. origin_few b x.origin x;
  same = λ x y gx gy e. same_entry b kept (entry_words b y) x y (subst (λ (ws : List (List ℕ)). IsEntryAt b ws x) e (entry_stands b x gx)) (entry_stands b y gy);
}

pub none_head_form : IsLineForm none_head none_head_words
none_head_form = record {
  some = record { value = record { number = 0 }; good = lit< tt };
  spelled = λ x g. none_spelled x.number;
  clean = λ x g. All-from_recursion IsLineWord (none_head_words x) (clean_word_none, (clean_count x.number g, tt));
  few = λ x g. lit≤ tt;
  same = λ x y gx gy e. same_none_head (none_head_words y) x y (subst (λ (ws : List (List ℕ)). IsNoneHeadAt ws x) e (none_head_stands x gx)) (none_head_stands y gy);
}

pub route_head_form : (b : BoardParts) → IsBoard b → 0 < length b.net_names → IsLineForm (route_head b) (route_head_words b)
route_head_form b kept nets = record {
  some = record { value = record { net = record { 0 = 0 }; made = 0; missing = 0 }; good = (nets, lit< tt, lit≤ tt) };
  spelled = λ x g. route_spelled b x.net x.made x.missing;
  clean = λ x g. All-from_recursion IsLineWord (route_head_words b x) (route_clean b kept x g);
  few = λ x g. lit≤ tt;
  same = λ x y gx gy e. same_route_head b kept (route_head_words b y) x y (subst (λ (ws : List (List ℕ)). IsRouteHeadAt b ws x) e (route_head_stands b x gx)) (route_head_stands b y gy);
}

pub head_form : (b : BoardParts) → IsBoard b → IsLineForm (head_line b) (head_words b)
head_form b kept = record {
  some = record { value = head.Rules 0; good = lit< tt };
  spelled = λ x g. head_spelled b x;
  clean = λ x g. All-from_recursion IsLineWord (head_words b x) (head_clean b kept x g);
  few = λ x g. head_few b x;
  same = λ x y gx gy e. same_head b kept (head_words b y) x y (subst (λ (ws : List (List ℕ)). IsHeadAt b ws x) e (head_stands b x gx)) (head_stands b y gy);
}

pub violation_form : (b : BoardParts) → IsBoard b → IsLineForm (violation_line b) (violation_words b)
violation_form b kept = record {
  some = record {
    value = Outline (record { 0 = 0 }) (record { owner = None; area = point });
    good = ((kept.some_layer, record { owner = tt; area = point_from }), record { area = point_in });
  };
  spelled = λ x g. violation_spelled b x;
  clean = λ x g. All-from_recursion IsLineWord (violation_words b x) (violation_clean b kept x g);
  few = λ x g. violation_few b x;
  same = λ x y gx gy e. same_violation b kept (violation_words b y) x y (subst (λ (ws : List (List ℕ)). IsViolationAt b ws x) e (violation_stands b x gx)) (violation_stands b y gy);
}

pub strip_form : (b : BoardParts) → IsBoard b → IsLineForm (strip_line b) (strip_words b)
strip_form b kept = record {
  some = record {
    value = record { area = point; label = Free };
    good = (record { label = tt; area = point_from }, record { area = point_in });
  };
  spelled = λ x g. strip_spelled b x;
  clean = λ x g. All-from_recursion IsLineWord (strip_words b x) (strip_clean b kept x g);
  few = λ x g. label_few b x.label x.area;
  same = λ x y gx gy e. same_strip b kept (strip_words b y) x y (subst (λ (ws : List (List ℕ)). IsStripAt b ws x) e (strip_stands b x gx)) (strip_stands b y gy);
}
