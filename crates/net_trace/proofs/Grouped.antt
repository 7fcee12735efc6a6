-- The groups of a report, one after another, by the number of the group of each piece.
use Rattle.std.proofs.Common.{◌≡◌, ℕ, ◌+◌, ◌<◌, ◌≤◌, ◌≢◌, List, [], ◌∷◌, ◌++◌, length, get_or, ap, sym, ◌∙◌, subst, refl, ◌⊎◌, inl, inr, arith}
use Rattle.std.specs.Prelude.{Contains, Option, unwrap_or}
use Rattle.std.proofs.lemmas.Bool.{cases_eq}
use Rattle.std.proofs.lemmas.Option.{slice_get_within, get_or_from_slice_get, slice_get-get_or, slice_get_read}
use Rattle.geo_rect.specs.declared.ids.NetId.{NetId}
use Rattle.board_parts.specs.declared.parts.BoardParts.{BoardParts}
use Rattle.net_trace.specs.declared.copper.Piece.{Piece}
use Rattle.net_trace.specs.declared.traced.Group.{Group}
use Rattle.net_trace.specs.declared.traced.OpenNet.{OpenNet}
use Rattle.net_trace.specs.Report.{IsListOf, IsCount, IsOfNet, HasPiece, IsGroup, IsOpen, IsEarlierGroup, IsEarlierNet, Differ}
use Rattle.net_trace.specs.Listing.{IsSoBelow, IsListed, group_number, net_number}
use Rattle.net_trace.proofs.Listing.{list_same, list_push, below_skip, below_push, below_all, count_skip, count_next, count_all, count_one}

-- nets of one number are one
pub net_same : (n m : NetId) → n.0 ≡ m.0 → n ≡ m
net_same n m e = ap (λ (k : ℕ). let x : NetId = record { 0 = k } in x) e

-- a piece that is read at its number tells the net
pub net_read : (pieces : List Piece) (i : ℕ) (p : Piece) → p ≡ get_or pieces i p → (n : NetId) → IsOfNet pieces n i → p.net ≡ n
net_read pieces i p here n o = ap (λ (x : Piece). x.net) (here ∙ get_or_from_slice_get pieces i o.piece p o.here) ∙ o.net

pub of_net_read : (pieces : List Piece) (i : ℕ) (p : Piece) → i < length pieces → p ≡ get_or pieces i p → (n : NetId) → p.net.0 ≡ n.0 → IsOfNet pieces n i
of_net_read pieces i p l here n e = record { piece = p; here = slice_get_read pieces (length pieces) i p refl l here; net = net_same p.net n e }

-- a number of a list is what it is listed at
pub listed_at : (numbers : List ℕ) (i : ℕ) → i < length numbers → IsListed numbers i (get_or numbers i 0)
listed_at numbers i l = slice_get-get_or numbers i 0 l

pub listed_is : (numbers : List ℕ) (i f : ℕ) → IsListed numbers i f → get_or numbers i 0 ≡ f
listed_is numbers i f h = get_or_from_slice_get numbers i f 0 h

module _ (numbers : List ℕ) where
  -- ---- how many pieces are in a group

  pub size_skip : (group i c : ℕ) → get_or numbers i 0 ≢ group → IsCount (IsSoBelow (λ k. k) (λ k. IsListed numbers k group) i) c → IsCount (IsSoBelow (λ k. k) (λ k. IsListed numbers k group) (i + 1)) c
  size_skip group i c d h = count_skip (λ k. IsListed numbers k group) i c (λ e. d (listed_is numbers i group e)) h

  pub size_next : (group i c : ℕ) → i < length numbers → get_or numbers i 0 ≡ group → IsCount (IsSoBelow (λ k. k) (λ k. IsListed numbers k group) i) c → IsCount (IsSoBelow (λ k. k) (λ k. IsListed numbers k group) (i + 1)) (c + 1)
  size_next group i c l e h = count_next (λ k. IsListed numbers k group) i c (subst (IsListed numbers i) e (listed_at numbers i l)) h

  pub size_all : (group i c : ℕ) → length numbers ≤ i → IsCount (IsSoBelow (λ k. k) (λ k. IsListed numbers k group) i) c → IsCount (λ k. IsListed numbers k group) c
  size_all group i c l h = count_all (λ k. IsListed numbers k group) i c (λ k e. let w = slice_get_within numbers k group e in omega (arith, w, l)) h

  -- ---- the groups

  group_is : (f c : ℕ) (g : Group) → g.first ≡ f → g.count ≡ c → record { first = f; count = c } ≡ g
  group_is f c g d e =
      ap (λ (n : ℕ). let h : Group = record { first = n; count = c } in h) (sym d) ∙ ap (λ (n : ℕ). let h : Group = record { first = g.first; count = n } in h) (sym e)

  pub groups_next : (f c : ℕ) (xs : List Group) → f < length numbers → get_or numbers f 0 ≡ f → IsCount (λ k. IsListed numbers k f) c → IsListOf IsEarlierGroup (IsSoBelow group_number (IsGroup (IsListed numbers)) f) xs → IsListOf IsEarlierGroup (IsSoBelow group_number (IsGroup (IsListed numbers)) (f + 1)) (xs ++ record { first = f; count = c } ∷ [])
  groups_next f c xs l e s h =
      below_push IsEarlierGroup group_number (IsGroup (IsListed numbers)) f xs (record { first = f; count = c }) (λ g k. k) refl (record { first = subst (IsListed numbers f) e (listed_at numbers f l); size = s })
      (λ g d p. group_is f c g d (count_one (λ k. IsListed numbers k f) g.count c (subst (λ n. IsCount (λ k. IsListed numbers k n) g.count) d p.size) s)) h

  -- ---- the groups of a net

  module _ (pieces : List Piece) (net : NetId) where
    pub has_more : (n f : ℕ) → HasPiece n pieces (IsListed numbers) net f → HasPiece (n + 1) pieces (IsListed numbers) net f
    has_more n f h = record { number = h.number; early = omega (arith, h.early); of_net = h.of_net; in_group = h.in_group }

    pub has_back : (n f : ℕ) → HasPiece (n + 1) pieces (IsListed numbers) net f → HasPiece n pieces (IsListed numbers) net f ⊎ (IsOfNet pieces net n × IsListed numbers n f)
    has_back n f h = by (cases_eq h.number n)
      where
        by : (h.number ≡ n) ⊎ (h.number ≢ n) → HasPiece n pieces (IsListed numbers) net f ⊎ (IsOfNet pieces net n × IsListed numbers n f)
        by (inl e) = inr (subst (IsOfNet pieces net) e h.of_net, subst (λ k. IsListed numbers k f) e h.in_group)
        by (inr d) = inl (record { number = h.number; early = omega (arith, h.early, d); of_net = h.of_net; in_group = h.in_group })

    -- the next piece brings no group: it is of another net, or its group is there
    pub held_skip : (n : ℕ) (xs : List ℕ) → ((f : ℕ) → IsOfNet pieces net n → IsListed numbers n f → Contains xs f) → IsListOf Differ (HasPiece n pieces (IsListed numbers) net) xs → IsListOf Differ (HasPiece (n + 1) pieces (IsListed numbers) net) xs
    held_skip n xs there h = list_same Differ (HasPiece n pieces (IsListed numbers) net) (HasPiece (n + 1) pieces (IsListed numbers) net) xs (has_more n) (λ f q. by f (has_back n f q)) h
      where
        by : (f : ℕ) → HasPiece n pieces (IsListed numbers) net f ⊎ (IsOfNet pieces net n × IsListed numbers n f) → HasPiece n pieces (IsListed numbers) net f
        by f (inl p) = p
        by f (inr p) = h.each f (there f p.0 p.1)

    pub held_next : (n f : ℕ) (xs : List ℕ) → IsOfNet pieces net n → IsListed numbers n f → ¬ Contains xs f → IsListOf Differ (HasPiece n pieces (IsListed numbers) net) xs → IsListOf Differ (HasPiece (n + 1) pieces (IsListed numbers) net) (xs ++ f ∷ [])
    held_next n f xs o g absent h =
        list_push Differ (HasPiece n pieces (IsListed numbers) net) (HasPiece (n + 1) pieces (IsListed numbers) net) xs f (λ x p e. absent (subst (Contains xs) e (h.all x p))) (record { number = n; early = omega arith; of_net = o; in_group = g }) (has_more n) (λ x q. by x (has_back n x q)) h
      where
        by : (x : ℕ) → HasPiece n pieces (IsListed numbers) net x ⊎ (IsOfNet pieces net n × IsListed numbers n x) → HasPiece n pieces (IsListed numbers) net x ⊎ (f ≡ x)
        by x (inl p) = inl p
        by x (inr p) = inr (ap (λ (o : Option ℕ). unwrap_or o 0) (sym g ∙ p.1))

  -- ---- the open nets

  module _ (b : BoardParts) (pieces : List Piece) where
    abbrev IsOpenHere : OpenNet → Type 0
    IsOpenHere o = IsOpen b pieces (IsListed numbers) o

    net_is : (net : NetId) (c : ℕ) (o : OpenNet) → net ≡ o.net → c ≡ o.groups → record { net = net; groups = c } ≡ o
    net_is net c o d e =
        ap (λ (n : NetId). let p : OpenNet = record { net = n; groups = c } in p) d ∙ ap (λ (n : ℕ). let p : OpenNet = record { net = o.net; groups = n } in p) e

    -- an open net is in as many groups as are counted
    count_is : (net : NetId) (c : ℕ) → IsCount (HasPiece (length b.pins) pieces (IsListed numbers) net) c → (o : OpenNet) → net ≡ o.net → IsOpenHere o → c ≡ o.groups
    count_is net c h o e p =
        count_one (HasPiece (length b.pins) pieces (IsListed numbers) o.net) c o.groups (subst (λ n. IsCount (HasPiece (length b.pins) pieces (IsListed numbers) n) c) e h) p.held

    pub opens_skip : (net : NetId) (held : List ℕ) (xs : List OpenNet) → IsListOf Differ (HasPiece (length b.pins) pieces (IsListed numbers) net) held → length held < 2 → IsListOf IsEarlierNet (IsSoBelow net_number IsOpenHere net.0) xs → IsListOf IsEarlierNet (IsSoBelow net_number IsOpenHere (net.0 + 1)) xs
    opens_skip net held xs c l h =
        below_skip IsEarlierNet net_number IsOpenHere net.0 xs (λ o e p. let same = count_is net (length held) (record { numbers = held; lists = c; many = refl }) o (net_same net o.net (sym e)) p in omega (arith, same, l, p.several)) h

    pub opens_next : (net : NetId) (k : ℕ) (held : List ℕ) (xs : List OpenNet) → net.0 < length b.net_names → IsListOf Differ (HasPiece (length b.pins) pieces (IsListed numbers) net) held → k ≡ length held → 2 ≤ k → IsListOf IsEarlierNet (IsSoBelow net_number IsOpenHere net.0) xs → IsListOf IsEarlierNet (IsSoBelow net_number IsOpenHere (net.0 + 1)) (xs ++ record { net = net; groups = k } ∷ [])
    opens_next net k held xs known c e l h =
        let counted : IsCount (HasPiece (length b.pins) pieces (IsListed numbers) net) k = record { numbers = held; lists = c; many = sym e } in
        below_push IsEarlierNet net_number IsOpenHere net.0 xs (record { net = net; groups = k }) (λ o m. m) refl (record { known = known; held = counted; several = l })
        (λ o f p. net_is net k o (net_same net o.net (sym f)) (count_is net k counted o (net_same net o.net (sym f)) p)) h

    pub opens_all : (n : ℕ) (xs : List OpenNet) → length b.net_names ≤ n → IsListOf IsEarlierNet (IsSoBelow net_number IsOpenHere n) xs → IsListOf IsEarlierNet IsOpenHere xs
    opens_all n xs l h = below_all IsEarlierNet net_number IsOpenHere n xs (λ o p. omega (arith, p.known, l)) h
