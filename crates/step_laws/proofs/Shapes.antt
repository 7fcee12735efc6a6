-- The shapes of a state after a connection is made, and after a net's connections are removed.
use Rattle.std.proofs.Common.{ℕ, zero, suc, ◌≡◌, ◌+◌, ◌<◌, ◌↔◌, ◌⊎◌, inl, inr, List, [], ◌∷◌, ◌++◌, length, set, Contains, sym, ap, subst, ◌∙◌, append-nil, arith}
use Rattle.std.specs.List.{flat_map}
use Rattle.std.proofs.lemmas.List.{set-get_or}
use Rattle.std.proofs.lemmas.List.Concat.{flat_map-append}
use Rattle.std.proofs.lemmas.List.Elements.{Contains-append_left, Contains-append_right, Contains-append_cases}
use Rattle.geo_rect.specs.declared.ids.NetId.{NetId}
use Rattle.board_model.specs.declared.made.Conn.{Conn}
use Rattle.board_parts.specs.declared.parts.BoardParts.{BoardParts}
use Rattle.board_model.specs.declared.shapes.Shape.{Shape}
use Rattle.board_model.specs.Made.{conns_of, with_conn, without_conns}
use Rattle.board_model.specs.Shapes.{conn_shapes, made_shapes, board_shapes, state_shapes}
use Rattle.route_law.specs.Routing.{net_at}

-- the shapes of connections
abbrev net_shapes : BoardParts → NetId → List Conn → List Shape
net_shapes b n conns = flat_map (conn_shapes b n) conns

-- where a net has these connections, the shapes are those without them, and theirs
module _ (b : BoardParts) (s : Shape) where
  replaced_first : (k : ℕ) (conns : List Conn) (lists : List (List Conn)) (m : NetId) → net_at k ≡ m
      → Contains (net_shapes b (net_at k) conns ++ made_shapes b (k + 1) lists) s ↔ (Contains (made_shapes b (k + 1) lists) s ⊎ Contains (net_shapes b m conns) s)
  replaced_first k conns lists m e = (λ h. to (Contains-append_cases (net_shapes b (net_at k) conns) (made_shapes b (k + 1) lists) s h), from)
    where
      to : Contains (net_shapes b (net_at k) conns) s ⊎ Contains (made_shapes b (k + 1) lists) s → Contains (made_shapes b (k + 1) lists) s ⊎ Contains (net_shapes b m conns) s
      to (inl h) = inr (subst (λ (n : NetId). Contains (net_shapes b n conns) s) e h)
      to (inr h) = inl h

      from : Contains (made_shapes b (k + 1) lists) s ⊎ Contains (net_shapes b m conns) s → Contains (net_shapes b (net_at k) conns ++ made_shapes b (k + 1) lists) s
      from (inl h) = Contains-append_right (net_shapes b (net_at k) conns) (made_shapes b (k + 1) lists) s h
      from (inr h) =
          Contains-append_left (net_shapes b (net_at k) conns) (made_shapes b (k + 1) lists) s (subst (λ (n : NetId). Contains (net_shapes b n conns) s) (sym e) h)

  replaced_later : (first rest before : List Shape) (P : Type 0) → Contains rest s ↔ (Contains before s ⊎ P) → Contains (first ++ rest) s ↔ (Contains (first ++ before) s ⊎ P)
  replaced_later first rest before P e = (λ h. to (Contains-append_cases first rest s h), from)
    where
      moved : Contains before s ⊎ P → Contains (first ++ before) s ⊎ P
      moved (inl h) = inl (Contains-append_right first before s h)
      moved (inr h) = inr h

      to : Contains first s ⊎ Contains rest s → Contains (first ++ before) s ⊎ P
      to (inl h) = inl (Contains-append_left first before s h)
      to (inr h) = moved (e.0 h)

      back : Contains first s ⊎ Contains before s → Contains (first ++ rest) s
      back (inl h) = Contains-append_left first rest s h
      back (inr h) = Contains-append_right first rest s (e.1 (inl h))

      from : Contains (first ++ before) s ⊎ P → Contains (first ++ rest) s
      from (inl h) = back (Contains-append_cases first before s h)
      from (inr h) = Contains-append_right first rest s (e.1 (inr h))

  replaced : (k i : ℕ) (conns : List Conn) (lists : List (List Conn)) (m : NetId) → i < length lists → net_at (k + i) ≡ m
      → Contains (made_shapes b k (set lists i conns)) s ↔ (Contains (made_shapes b k (set lists i [])) s ⊎ Contains (net_shapes b m conns) s)
  replaced k i conns [] m l e = absurd (omega arith)
  replaced k zero conns (x ∷ lists) m l e =
      replaced_first k conns lists m (ap net_at (omega arith) ∙ e)
  replaced k (suc i) conns (x ∷ lists) m l e =
      replaced_later (net_shapes b (net_at k) x) (made_shapes b (k + 1) (set lists i conns)) (made_shapes b (k + 1) (set lists i [])) (Contains (net_shapes b m conns) s)
      (replaced (k + 1) i conns lists m (omega arith) (ap net_at (omega arith) ∙ e))

module _ (b : BoardParts) (lists : List (List Conn)) (n : NetId) (s : Shape) (l : n.0 < length lists) where
  -- the shapes of connections where the net has these
  made_with : (conns : List Conn) → Contains (made_shapes b 0 (set lists n.0 conns)) s ↔ (Contains (made_shapes b 0 (without_conns lists n)) s ⊎ Contains (net_shapes b n conns) s)
  made_with conns = replaced b s 0 n.0 conns lists n l (ap net_at (omega arith))

  pub made_without_conns : Contains (made_shapes b 0 lists) s ↔ (Contains (made_shapes b 0 (without_conns lists n)) s ⊎ Contains (net_shapes b n (conns_of lists n)) s)
  made_without_conns =
      subst (λ (ls : List (List Conn)). Contains (made_shapes b 0 ls) s ↔ (Contains (made_shapes b 0 (without_conns lists n)) s ⊎ Contains (net_shapes b n (conns_of lists n)) s)) (set-get_or lists n.0 []) (made_with (conns_of lists n))

  last_shapes : (c : Conn) → net_shapes b n (conns_of lists n ++ c ∷ []) ≡ net_shapes b n (conns_of lists n) ++ conn_shapes b n c
  last_shapes c =
      flat_map-append (conn_shapes b n) (conns_of lists n) (c ∷ []) ∙ ap (λ (xs : List Shape). net_shapes b n (conns_of lists n) ++ xs) (append-nil (conn_shapes b n c))

  -- of a net's shapes with one more connection, and of those of the other nets
  abbrev Own : Conn → Type 0
  Own c = Contains (net_shapes b n (conns_of lists n ++ c ∷ [])) s

  abbrev Others : Type 0
  Others = Contains (made_shapes b 0 (without_conns lists n)) s

  pub made_with_conn : (c : Conn) → Contains (made_shapes b 0 (with_conn lists n c)) s ↔ (Contains (made_shapes b 0 lists) s ⊎ Contains (conn_shapes b n c) s)
  made_with_conn c = (λ h. to ((made_with (conns_of lists n ++ c ∷ [])).0 h), λ h. (made_with (conns_of lists n ++ c ∷ [])).1 (from h))
    where
      last : Contains (net_shapes b n (conns_of lists n)) s ⊎ Contains (conn_shapes b n c) s → Contains (made_shapes b 0 lists) s ⊎ Contains (conn_shapes b n c) s
      last (inl h) = inl (made_without_conns.1 (inr h))
      last (inr h) = inr h

      to : Others ⊎ Own c → Contains (made_shapes b 0 lists) s ⊎ Contains (conn_shapes b n c) s
      to (inl h) = inl (made_without_conns.1 (inl h))
      to (inr h) =
          last (Contains-append_cases (net_shapes b n (conns_of lists n)) (conn_shapes b n c) s (subst (λ (xs : List Shape). Contains xs s) (last_shapes c) h))

      before : Others ⊎ Contains (net_shapes b n (conns_of lists n)) s → Others ⊎ Own c
      before (inl h) = inl h
      before (inr h) =
          inr (subst (λ (xs : List Shape). Contains xs s) (sym (last_shapes c)) (Contains-append_left (net_shapes b n (conns_of lists n)) (conn_shapes b n c) s h))

      from : Contains (made_shapes b 0 lists) s ⊎ Contains (conn_shapes b n c) s → Others ⊎ Own c
      from (inl h) = before (made_without_conns.0 h)
      from (inr h) =
          inr (subst (λ (xs : List Shape). Contains xs s) (sym (last_shapes c)) (Contains-append_right (net_shapes b n (conns_of lists n)) (conn_shapes b n c) s h))

pub shapes_with_conn : (b : BoardParts) (lists : List (List Conn)) (n : NetId) (c : Conn) (s : Shape) → n.0 < length lists → Contains (state_shapes b (with_conn lists n c)) s ↔ (Contains (state_shapes b lists) s ⊎ Contains (conn_shapes b n c) s)
shapes_with_conn b lists n c s l =
    replaced_later b s (board_shapes b) (made_shapes b 0 (with_conn lists n c)) (made_shapes b 0 lists) (Contains (conn_shapes b n c) s) (made_with_conn b lists n s l c)

pub shapes_without_conns : (b : BoardParts) (lists : List (List Conn)) (n : NetId) (s : Shape) → n.0 < length lists → Contains (state_shapes b lists) s ↔ (Contains (state_shapes b (without_conns lists n)) s ⊎ Contains (flat_map (conn_shapes b n) (conns_of lists n)) s)
shapes_without_conns b lists n s l =
    replaced_later b s (board_shapes b) (made_shapes b 0 lists) (made_shapes b 0 (without_conns lists n)) (Contains (flat_map (conn_shapes b n) (conns_of lists n)) s) (made_without_conns b lists n s l)
