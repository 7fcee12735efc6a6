-- The text of rounds, one by one, and of nets in the order of the text.
use Rattle.std.proofs.Common.{ℕ, ◌≡◌, ◌+◌, ◌<◌, List, [], ◌∷◌, ◌++◌, length, take, get_or, All, refl, sym, ◌∙◌, ap, subst, append_assoc, arith}
use Rattle.std.specs.List.{flat_map}
use Rattle.std.proofs.lemmas.List.{append-nil, length-take-le, take_more}
use Rattle.std.proofs.lemmas.List.Elements.{All-nil, All-cons, All-head, All-tail, All-get_or}
use Rattle.std.proofs.lemmas.List.FromFn.{map-range_with_len_more}
use Rattle.std.proofs.lemmas.Grind.{flat_map-append}
use Rattle.geo_rect.specs.declared.ids.NetId.{NetId}
use Rattle.board_model.specs.declared.made.Conn.{Conn}
use Rattle.board_model.specs.Made.{conns_of}
use Rattle.board_parts.specs.declared.parts.BoardParts.{BoardParts}
use Rattle.route_law.specs.declared.replies.Item.{Item}
use Rattle.route_law.specs.declared.replies.Routed.{Routed}
use Rattle.route_law.specs.Kept.{IsState}
use Rattle.route_law.specs.Regular.{IsRegularConn, IsRegularItem}
use Rattle.route_law.specs.Routing.{net_at}
use Rattle.route_law.specs.Steps.{items_from}
use Rattle.auto_route.proofs.Ordering.{nets_before}
use Rattle.auto_route.specs.Texts.{round_text, rounds_text}

rounds_text-next : (b : BoardParts) (k : ℕ) (rounds : List (List Routed)) (round : List Routed) → rounds_text b k (rounds ++ round ∷ []) ≡ rounds_text b k rounds ++ round_text b (k + length rounds) round
rounds_text-next b k [] round = append-nil (round_text b k round) ∙ ap (λ (n : ℕ). round_text b n round) (omega arith)
rounds_text-next b k (x ∷ rounds) round =
    let first : List ℕ = round_text b k x in
    ap (λ (rest : List ℕ). first ++ rest) (rounds_text-next b (k + 1) rounds round ∙ ap (λ (n : ℕ). rounds_text b (k + 1) rounds ++ round_text b n round) (omega arith))
    ∙ sym (append_assoc first (rounds_text b (k + 1) rounds) (round_text b (k + length (x ∷ rounds)) round))

-- one round more is told
pub rounds_more : (b : BoardParts) (rounds : List (List Routed)) (i n : ℕ) (round : List Routed) (old mid new : List ℕ) → i < length rounds → round ≡ get_or rounds i round → n ≡ i + 1
    → mid ≡ old ++ rounds_text b 1 (take i rounds) → new ≡ mid ++ round_text b n round → new ≡ old ++ rounds_text b 1 (take (i + 1) rounds)
rounds_more b rounds i n round old mid new l is number h k =
    let some : List (List Routed) = take i rounds in
    let place : n ≡ 1 + length some = omega (arith, length-take-le i rounds) in
    let more : take (i + 1) rounds ≡ some ++ round ∷ [] = take_more rounds i round l ∙ ap (λ (x : List Routed). some ++ x ∷ []) (sym is) in
    k ∙ ap (λ (text : List ℕ). text ++ round_text b n round) h
    ∙ append_assoc old (rounds_text b 1 some) (round_text b n round)
    ∙ ap (λ (m : ℕ). old ++ (rounds_text b 1 some ++ round_text b m round)) place
    ∙ ap (λ (text : List ℕ). old ++ text) (sym (rounds_text-next b 1 some round) ∙ ap (λ (xs : List (List Routed)). rounds_text b 1 xs) (sym more))

-- one net more is told
pub nets_more : (f : NetId → List ℕ) (k : ℕ) (old mid new : List ℕ) → mid ≡ old ++ flat_map f (nets_before k) → new ≡ mid ++ f (net_at k) → new ≡ old ++ flat_map f (nets_before (k + 1))
nets_more f k old mid new h g =
    let one : f (net_at k) ≡ flat_map f (net_at k ∷ []) = sym (append-nil (f (net_at k))) in
    g ∙ ap (λ (text : List ℕ). text ++ f (net_at k)) h ∙ append_assoc old (flat_map f (nets_before k)) (f (net_at k))
    ∙ ap (λ (text : List ℕ). old ++ text)
    (ap (λ (text : List ℕ). flat_map f (nets_before k) ++ text) one ∙ sym (flat_map-append f (nets_before k) (net_at k ∷ []))
    ∙ ap (λ (ns : List NetId). flat_map f ns) (sym (map-range_with_len_more net_at 0 k k (omega arith))))

items_regular : (b : BoardParts) (k : ℕ) (cs : List Conn) → All (IsRegularConn b) cs → All (IsRegularItem b) (items_from k cs)
items_regular b k [] h = All-nil (IsRegularItem b)
items_regular b k (c ∷ cs) h =
    let item : Item = record { number = k; conn = c } in
    All-cons (IsRegularItem b) item (items_from (k + 1) cs) (All-head (IsRegularConn b) c cs h) (items_regular b (k + 1) cs (All-tail (IsRegularConn b) c cs h))

-- the connections of a net can be listed
pub shown_regular : (b : BoardParts) (lists : List (List Conn)) (n : NetId) (items : List Item) → IsState b lists → n.0 < length b.net_names → items ≡ items_from 1 (conns_of lists n) → All (IsRegularItem b) items
shown_regular b lists n items h l e =
    let conns : All (IsRegularConn b) (conns_of lists n) = All-get_or (All (IsRegularConn b)) lists n.0 [] (omega (arith, l, h.nets)) h.regular in
    subst (All (IsRegularItem b)) (sym e) (items_regular b 1 (conns_of lists n) conns)

pub length-items_from : (k : ℕ) (cs : List Conn) → length (items_from k cs) ≡ length cs
length-items_from k [] = refl
length-items_from k (c ∷ cs) = let rest = length-items_from (k + 1) cs in omega arith
