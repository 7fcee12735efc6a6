-- In each state of a run, each connection of a net starts on what the net has before it, and ends on the
-- net's next pin.
use Rattle.std.proofs.Common.{ℕ, ◌≡◌, ◌+◌, ◌<◌, ◌≤◌, ◌≢◌, ◌⊎◌, inl, inr, List, [], ◌∷◌, ◌++◌, length, take, sym, ◌∙◌, subst, append-nil, append_assoc, arith}
use Rattle.std.specs.List.{flat_map}
use Rattle.std.proofs.lemmas.Bool.{cases_eq, cases_lt}
use Rattle.std.proofs.lemmas.List.{length-set, length-replicate, get_or-set_same, get_or-set_other, get_or-replicate, get_or_past}
use Rattle.geo_rect.specs.declared.ids.NetId.{NetId}
use Rattle.board_parts.specs.declared.commands.Command.{Command}
use Rattle.board_parts.specs.declared.parts.BoardParts.{BoardParts}
use Rattle.board_parts.specs.Lookup.{pins_of}
use Rattle.board_model.specs.declared.made.Conn.{Conn}
use Rattle.board_model.specs.Boxes.{pin_boxes, conn_boxes, target_boxes}
use Rattle.board_model.specs.Made.{conns_of, with_conn, without_conns}
use Rattle.board_model.specs.WellFormed.{IsWellFormed}
use Rattle.route_law.specs.declared.replies.Made1.{Made1}
use Rattle.route_law.specs.declared.replies.Reply.{Reply}
use Rattle.route_law.specs.declared.replies.Reply.TheVariants as reply
use Rattle.route_law.specs.declared.replies.Routed.{Routed}
use Rattle.route_law.specs.Routing.{IsNextConnection, AreMadeInTurn, AreRoutedFrom}
use Rattle.route_law.specs.Steps.{IsAnswer, IsRunFrom, nothing_made}
use Rattle.route_law.specs.Walks.{HasNode, last_node}
use Rattle.route_law.proofs.Legs.{legs_end}
use Rattle.net_trace.proofs.Grouped.{net_same}

-- the connection starts on one of the net's first pins, one more than it has connections before this, or on one
-- of those, and ends on the pin after these
pub record IsAttached (b : BoardParts) (n : NetId) (before : List Conn) (c : Conn) : Type 0 where
  pub well_formed : IsWellFormed b c
  pub starts : HasNode (flat_map pin_boxes (take (length before + 1) (pins_of b n)) ++ flat_map (conn_boxes b) before) c.start
  pub ends : HasNode (target_boxes b n (length before + 1)) (last_node c.start c.legs)

-- each of the connections is attached to those before it
abbrev pub AreAttached : BoardParts → NetId → List Conn → List Conn → Type 0
AreAttached b n before [] = Unit {0}
AreAttached b n before (c ∷ cs) = IsAttached b n before c × AreAttached b n (before ++ c ∷ []) cs

attached-push : (b : BoardParts) (n : NetId) (before cs : List Conn) (c : Conn) → AreAttached b n before cs → IsAttached b n (before ++ cs) c → AreAttached b n before (cs ++ c ∷ [])
attached-push b n before [] c h a = (subst (λ (xs : List Conn). IsAttached b n xs c) (append-nil before) a, tt)
attached-push b n before (d ∷ cs) c h a =
    let moved : IsAttached b n ((before ++ d ∷ []) ++ cs) c = subst (λ (xs : List Conn). IsAttached b n xs c) (sym (append_assoc before (d ∷ []) cs)) a in
    (h.0, attached-push b n (before ++ d ∷ []) cs c h.1 moved)

next_attached : (b : BoardParts) (lists : List (List Conn)) (n : NetId) (m : Made1) → IsNextConnection b lists n m → IsAttached b n (conns_of lists n) m.conn
next_attached b lists n m next =
    let c = next.least.connection in
    record {
      well_formed = c.well_formed;
      starts = c.walk.starts;
      ends = subst (HasNode (target_boxes b n (length (conns_of lists n) + 1))) (legs_end b m.conn.start m.conn.legs c.well_formed.steps) c.walk.ends;
    }

module _ (b : BoardParts) where
  -- there is a list for each net, and its connections are attached
  record AreAllAttached (lists : List (List Conn)) : Type 0 where
    nets : length lists ≡ length b.net_names
    each : (n : NetId) → AreAttached b n [] (conns_of lists n)

  -- where a net's list is another, and the others are as they were
  all_with : (lists : List (List Conn)) (n : NetId) (conns : List Conn) (new : List (List Conn)) → length new ≡ length lists → conns_of new n ≡ conns → ((k : NetId) → k.0 ≢ n.0 → conns_of new k ≡ conns_of lists k) → AreAllAttached lists → AreAttached b n [] conns → AreAllAttached new
  all_with lists n conns new e same other h a = record { nets = e ∙ h.nets; each = λ k. by k (cases_eq k.0 n.0) }
    where
      by : (k : NetId) → (k.0 ≡ n.0) ⊎ (k.0 ≢ n.0) → AreAttached b k [] (conns_of new k)
      by k (inl d) = subst (λ (z : NetId). AreAttached b z [] (conns_of new z)) (net_same n k (sym d)) (subst (AreAttached b n []) (sym same) a)
      by k (inr d) = subst (AreAttached b k []) (sym (other k d)) (h.each k)

  all_next : (lists : List (List Conn)) (n : NetId) (c : Conn) → n.0 < length b.net_names → AreAllAttached lists → IsAttached b n (conns_of lists n) c → AreAllAttached (with_conn lists n c)
  all_next lists n c l h a =
      let i : n.0 < length lists = omega (arith, l, h.nets) in
      let conns : List Conn = conns_of lists n ++ c ∷ [] in
      all_with lists n conns (with_conn lists n c) (length-set lists n.0 conns) (get_or-set_same lists n.0 conns [] i)
      (λ k d. get_or-set_other lists n.0 k.0 conns [] d) h (attached-push b n [] (conns_of lists n) c (h.each n) a)

  none_after : (lists : List (List Conn)) (n : NetId) → conns_of (without_conns lists n) n ≡ []
  none_after lists n = by (cases_lt n.0 (length lists))
    where
      by : (n.0 < length lists) ⊎ (length lists ≤ n.0) → conns_of (without_conns lists n) n ≡ []
      by (inl l) = get_or-set_same lists n.0 [] [] l
      by (inr l) = let e = length-set lists n.0 [] in get_or_past (without_conns lists n) n.0 [] (omega (arith, e, l))

  all_ripped : (lists : List (List Conn)) (n : NetId) → AreAllAttached lists → AreAllAttached (without_conns lists n)
  all_ripped lists n h =
      all_with lists n [] (without_conns lists n) (length-set lists n.0 []) (none_after lists n) (λ k d. get_or-set_other lists n.0 k.0 [] [] d) h tt

  all_same : (old new : List (List Conn)) → AreAllAttached old → new ≡ old → AreAllAttached new
  all_same old new h e = subst AreAllAttached (sym e) h

  all_made : (n : NetId) (old new : List (List Conn)) (ms : List Made1) → n.0 < length b.net_names → AreAllAttached old → AreMadeInTurn b old n ms new → AreAllAttached new
  all_made n old new [] l h e = all_same old new h e
  all_made n old new (m ∷ ms) l h made =
      all_made n (with_conn old n m.conn) new ms l (all_next old n m.conn l h (next_attached b old n m made.0)) made.1

  all_routed : (n : ℕ) (old new : List (List Conn)) (rs : List Routed) → AreAllAttached old → AreRoutedFrom b n old rs new → AreAllAttached new
  all_routed n old new [] h e = all_same old new h e
  all_routed n old new (r ∷ rs) h routed =
      all_routed (n + 1) routed.1 new rs (all_made r.net old routed.1 r.made routed.2.net h routed.2.made) routed.3

  all_answered : (old new : List (List Conn)) (r : Reply) → AreAllAttached old → IsAnswer b old r new → AreAllAttached new
  all_answered old new (reply.Route r) h a = all_made r.net old new r.made a.net h a.made
  all_answered old new (reply.All rs) h a = all_routed 0 old new rs h a.1
  all_answered old new (reply.Rip n m) h a = all_same (without_conns old n) new (all_ripped old n h) a.1
  all_answered old new (reply.Show n m items) h a = all_same old new h a.2
  all_answered old new (reply.Rules found) h a = all_same old new h a.1
  all_answered old new (reply.Strips l c strips) h a = all_same old new h a.1

  all_run : (old new : List (List Conn)) (cs : List Command) (rs : List Reply) → AreAllAttached old → IsRunFrom b old cs rs new → AreAllAttached new
  all_run old new [] [] h run = all_same old new h run
  all_run old new [] (r ∷ rs) h run = absurd run
  all_run old new (c ∷ cs) [] h run = absurd run
  all_run old new (c ∷ cs) (r ∷ rs) h run = all_run run.0 new cs rs (all_answered old run.0 r h run.1.answer) run.2

  all_of_none : AreAllAttached (nothing_made b)
  all_of_none = record { nets = length-replicate {A = List Conn} (length b.net_names) []; each = λ n. subst (AreAttached b n []) (sym (none n (cases_lt n.0 (length b.net_names)))) tt }
    where
      none : (n : NetId) → (n.0 < length b.net_names) ⊎ (length b.net_names ≤ n.0) → conns_of (nothing_made b) n ≡ []
      none n (inl l) = get_or-replicate {A = List Conn} (length b.net_names) n.0 [] [] l
      none n (inr l) = let e = length-replicate {A = List Conn} (length b.net_names) [] in get_or_past (nothing_made b) n.0 [] (omega (arith, e, l))

  pub run_attached : (cs : List Command) (rs : List Reply) (lists : List (List Conn)) → IsRunFrom b (nothing_made b) cs rs lists → (n : NetId) → AreAttached b n [] (conns_of lists n)
  run_attached cs rs lists run n = (all_run (nothing_made b) lists cs rs all_of_none run).each n

  pub run_nets : (cs : List Command) (rs : List Reply) (lists : List (List Conn)) → IsRunFrom b (nothing_made b) cs rs lists → length lists ≡ length b.net_names
  run_nets cs rs lists run = (all_run (nothing_made b) lists cs rs all_of_none run).nets
