-- The pairs of shorted nets, one after another.
use Rattle.std.proofs.Common.{◌≡◌, ℕ, ◌+◌, ◌<◌, ◌≢◌, Bool, true, false, List, [], ◌∷◌, ◌++◌, length, get_or, set, ap, sym, ◌∙◌, subst, refl, ◌⊎◌, inl, inr, arith}
use Rattle.std.specs.Prelude.{Contains}
use Rattle.std.proofs.lemmas.Bool.{cases_eq, false≢true}
use Rattle.std.proofs.lemmas.List.{get_or-set_same, get_or-set_other, length-set, get_or_default}
use Rattle.geo_rect.specs.declared.ids.NetId.{NetId}
use Rattle.net_trace.specs.declared.copper.Piece.{Piece}
use Rattle.net_trace.specs.declared.traced.Short.{Short}
use Rattle.net_trace.specs.Report.{IsListOf, IsOfNet, HasPiece, IsShort, IsEarlierPair, by_first, by_second, Differ}
use Rattle.net_trace.specs.Listing.{AreWithin, IsListed, IsMet, AreMet, IsShortBefore, pair_of}
use Rattle.net_trace.proofs.Grouped.{net_same, net_read, of_net_read, listed_at, listed_is, has_more, has_back}
use Rattle.net_trace.proofs.Listing.{list_same, list_push}

-- what is read of a list of tests
pub test_read : (xs : List Bool) (i : ℕ) (v : Bool) → i < length xs → v ≡ get_or xs i v → get_or xs i false ≡ v
test_read xs i v l e = get_or_default xs i false v l ∙ sym e

-- a net that has a piece is one of so many
pub has_known : (pieces : List Piece) (numbers : List ℕ) (nets : ℕ) → AreWithin pieces numbers nets → (In : ℕ → ℕ → Type 0) (count : ℕ) (n : NetId) (f : ℕ) → HasPiece count pieces In n f → n.0 < nets
has_known pieces numbers nets w In count n f h =
    subst (λ (m : NetId). m.0 < nets) h.of_net.net (w.known_net h.number h.of_net.piece h.of_net.here)

module _ (pieces : List Piece) (In : ℕ → ℕ → Type 0) where
  -- the pairs before (a, b) are the only ones that are listed
  abbrev pub ShortsTo : ℕ → ℕ → List Short → Type 0
  ShortsTo a b xs = IsListOf IsEarlierPair (IsShortBefore pieces In (pair_of a b)) xs

  -- another bound with the same pairs before it
  module _ (a b c d : ℕ) where
    shorts_same : ((s : Short) → IsShort pieces In s → IsEarlierPair s (pair_of a b) → IsEarlierPair s (pair_of c d)) → ((s : Short) → IsShort pieces In s → IsEarlierPair s (pair_of c d) → IsEarlierPair s (pair_of a b)) → (xs : List Short) → ShortsTo a b xs → ShortsTo c d xs
    shorts_same on back xs h =
        list_same IsEarlierPair (IsShortBefore pieces In (pair_of a b)) (IsShortBefore pieces In (pair_of c d)) xs
        (λ s q. record { short = q.short; early = on s q.short q.early }) (λ s q. record { short = q.short; early = back s q.short q.early }) h

  -- no pair of the net has a later net up to itself
  pub shorts_begin : (a : ℕ) (xs : List Short) → ShortsTo a 0 xs → ShortsTo a (a + 1) xs
  shorts_begin a xs h = shorts_same a 0 a (a + 1) on back xs h
    where
      on : (s : Short) → IsShort pieces In s → IsEarlierPair s (pair_of a 0) → IsEarlierPair s (pair_of a (a + 1))
      on s q (by_first l) = by_first l
      on s q (by_second e l) = absurd (omega (arith, l))

      back : (s : Short) → IsShort pieces In s → IsEarlierPair s (pair_of a (a + 1)) → IsEarlierPair s (pair_of a 0)
      back s q (by_first l) = by_first l
      back s q (by_second e l) = let same = ap (λ (n : NetId). n.0) e in absurd (omega (arith, l, same, q.earlier))

  -- every later net is tried
  pub shorts_end : (a n : ℕ) → ((s : Short) → IsShort pieces In s → s.b.0 < n) → (xs : List Short) → ShortsTo a n xs → ShortsTo (a + 1) 0 xs
  shorts_end a n l xs h = shorts_same a n (a + 1) 0 on back xs h
    where
      on : (s : Short) → IsShort pieces In s → IsEarlierPair s (pair_of a n) → IsEarlierPair s (pair_of (a + 1) 0)
      on s q (by_first k) = by_first (omega (arith, k))
      on s q (by_second e k) = let same = ap (λ (m : NetId). m.0) e in by_first (omega (arith, same))

      at : (s : Short) → IsShort pieces In s → s.a.0 < a + 1 → (s.a.0 ≡ a) ⊎ (s.a.0 ≢ a) → IsEarlierPair s (pair_of a n)
      at s q k (inl e) = by_second (net_same s.a (pair_of a n).a e) (l s q)
      at s q k (inr d) = by_first (omega (arith, k, d))

      back : (s : Short) → IsShort pieces In s → IsEarlierPair s (pair_of (a + 1) 0) → IsEarlierPair s (pair_of a n)
      back s q (by_first k) = at s q k (cases_eq s.a.0 a)
      back s q (by_second e k) = absurd (omega (arith, k))

  next_pair : (a b : ℕ) (s : Short) → IsEarlierPair s (pair_of a (b + 1)) → IsEarlierPair s (pair_of a b) ⊎ (pair_of a b ≡ s)
  next_pair a b s (by_first l) = inl (by_first l)
  next_pair a b s (by_second e l) = at (cases_eq s.b.0 b)
    where
      at : (s.b.0 ≡ b) ⊎ (s.b.0 ≢ b) → IsEarlierPair s (pair_of a b) ⊎ (pair_of a b ≡ s)
      at (inl f) = inr (ap (λ (n : NetId). let t : Short = record { a = n; b = (pair_of a b).b } in t) (sym e) ∙ ap (λ (n : NetId). let t : Short = record { a = s.a; b = n } in t) (net_same (pair_of a b).b s.b (sym f)))
      at (inr d) = inl (by_second e (omega (arith, l, d)))

  pair_more : (a b : ℕ) (s : Short) → IsEarlierPair s (pair_of a b) → IsEarlierPair s (pair_of a (b + 1))
  pair_more a b s (by_first l) = by_first l
  pair_more a b s (by_second e l) = by_second e (omega (arith, l))

  -- the next pair is not shorted
  pub shorts_skip : (a b : ℕ) (xs : List Short) → (IsShort pieces In (pair_of a b) → ⊥) → ShortsTo a b xs → ShortsTo a (b + 1) xs
  shorts_skip a b xs none h = shorts_same a b a (b + 1) (λ s q e. pair_more a b s e) (λ s q e. by s q (next_pair a b s e)) xs h
    where
      by : (s : Short) → IsShort pieces In s → IsEarlierPair s (pair_of a b) ⊎ (pair_of a b ≡ s) → IsEarlierPair s (pair_of a b)
      by s q (inl e) = e
      by s q (inr e) = absurd (none (subst (IsShort pieces In) (sym e) q))

  -- the next pair is shorted
  pub shorts_next : (a b : ℕ) (xs : List Short) → IsShort pieces In (pair_of a b) → ShortsTo a b xs → ShortsTo a (b + 1) (xs ++ pair_of a b ∷ [])
  shorts_next a b xs here h =
      list_push IsEarlierPair (IsShortBefore pieces In (pair_of a b)) (IsShortBefore pieces In (pair_of a (b + 1))) xs (pair_of a b) (λ s q. q.early)
      (record { short = here; early = by_second refl (omega arith) }) (λ s q. record { short = q.short; early = pair_more a b s q.early }) (λ s q. by s q (next_pair a b s q.early)) h
    where
      by : (s : Short) → IsShortBefore pieces In (pair_of a (b + 1)) s → IsEarlierPair s (pair_of a b) ⊎ (pair_of a b ≡ s) → IsShortBefore pieces In (pair_of a b) s ⊎ (pair_of a b ≡ s)
      by s q (inl e) = inl (record { short = q.short; early = e })
      by s q (inr e) = inr e

  -- every earlier net is tried
  pub shorts_all : (n : ℕ) → ((s : Short) → IsShort pieces In s → s.a.0 < n) → (xs : List Short) → ShortsTo n 0 xs → IsListOf IsEarlierPair (IsShort pieces In) xs
  shorts_all n l xs h = list_same IsEarlierPair (IsShortBefore pieces In (pair_of n 0)) (IsShort pieces In) xs (λ s q. q.short) (λ s q. record { short = q; early = by_first (l s q) }) h

  -- ---- which nets are met

  -- what is told of the nets that are met says which pairs with this net are shorted
  module _ (net : NetId) (held : List ℕ) (h : IsListOf Differ (HasPiece (length pieces) pieces In net) held) (nets : ℕ) (met : List Bool) (m : AreMet (length pieces) pieces In held nets met) (b : ℕ) where
    pub short_if_met : net.0 < b → get_or met b false ≡ true → IsShort pieces In (pair_of net.0 b)
    short_if_met l e =
        let t = m.told (record { 0 = b }) e in
        record { earlier = l; group = t.group; of_a = h.each t.group t.is_held; of_b = t.has }

    pub none_if_unmet : get_or met b false ≡ false → IsShort pieces In (pair_of net.0 b) → ⊥
    none_if_unmet e s = false≢true (sym e ∙ m.all (record { 0 = b }) (record { group = s.group; is_held = h.all s.group s.of_a; has = s.of_b }))

module _ (pieces : List Piece) (numbers : List ℕ) (held : List ℕ) (nets : ℕ) where
  met_more : (n : ℕ) (m : NetId) → IsMet n pieces (IsListed numbers) held m → IsMet (n + 1) pieces (IsListed numbers) held m
  met_more n m h = record { group = h.group; is_held = h.is_held; has = has_more numbers pieces m n h.group h.has }

  met_back : (n : ℕ) (m : NetId) → IsMet (n + 1) pieces (IsListed numbers) held m → IsMet n pieces (IsListed numbers) held m ⊎ (IsOfNet pieces m n × Contains held (get_or numbers n 0))
  met_back n m h = by (has_back numbers pieces m n h.group h.has)
    where
      by : HasPiece n pieces (IsListed numbers) m h.group ⊎ (IsOfNet pieces m n × IsListed numbers n h.group) → IsMet n pieces (IsListed numbers) held m ⊎ (IsOfNet pieces m n × Contains held (get_or numbers n 0))
      by (inl p) = inl (record { group = h.group; is_held = h.is_held; has = p })
      by (inr p) = inr (p.0, subst (Contains held) (sym (listed_is numbers n h.group p.1)) h.is_held)

  -- the next piece is in no group that is held
  pub met_skip : (n : ℕ) (met : List Bool) → (Contains held (get_or numbers n 0) → ⊥) → AreMet n pieces (IsListed numbers) held nets met → AreMet (n + 1) pieces (IsListed numbers) held nets met
  met_skip n met none h = record { each = h.each; told = λ m e. met_more n m (h.told m e); all = λ m q. by m (met_back n m q) }
    where
      by : (m : NetId) → IsMet n pieces (IsListed numbers) held m ⊎ (IsOfNet pieces m n × Contains held (get_or numbers n 0)) → get_or met m.0 false ≡ true
      by m (inl q) = h.all m q
      by m (inr q) = absurd (none q.1)

  -- the next piece is in a group that is held
  module _ (n : ℕ) (p : Piece) (there : n < length pieces) (here : p ≡ get_or pieces n p) (listed : n < length numbers) (inside : Contains held (get_or numbers n 0)) (met : List Bool) (known : p.net.0 < nets) (h : AreMet n pieces (IsListed numbers) held nets met) where
    now_met : (m : NetId) → p.net.0 ≡ m.0 → IsMet (n + 1) pieces (IsListed numbers) held m
    now_met m e = record {
      group = get_or numbers n 0;
      is_held = inside;
      has = record { number = n; early = omega arith; of_net = of_net_read pieces n p there here m e; in_group = listed_at numbers n listed };
    }

    told_next : (m : NetId) → get_or (set met p.net.0 true) m.0 false ≡ true → IsMet (n + 1) pieces (IsListed numbers) held m
    told_next m e = by (cases_eq m.0 p.net.0)
      where
        by : (m.0 ≡ p.net.0) ⊎ (m.0 ≢ p.net.0) → IsMet (n + 1) pieces (IsListed numbers) held m
        by (inl s) = now_met m (sym s)
        by (inr d) = met_more n m (h.told m (sym (get_or-set_other met p.net.0 m.0 true false d) ∙ e))

    all_next : (m : NetId) → IsMet (n + 1) pieces (IsListed numbers) held m → get_or (set met p.net.0 true) m.0 false ≡ true
    all_next m q = by (cases_eq m.0 p.net.0) (met_back n m q)
      where
        by : (m.0 ≡ p.net.0) ⊎ (m.0 ≢ p.net.0) → IsMet n pieces (IsListed numbers) held m ⊎ (IsOfNet pieces m n × Contains held (get_or numbers n 0)) → get_or (set met p.net.0 true) m.0 false ≡ true
        by (inl s) k = ap (λ i. get_or (set met p.net.0 true) i false) s ∙ get_or-set_same met p.net.0 true false (omega (arith, known, h.each))
        by (inr d) (inl k) = get_or-set_other met p.net.0 m.0 true false d ∙ h.all m k
        by (inr d) (inr k) = absurd (d (ap (λ (x : NetId). x.0) (sym (net_read pieces n p here m k.0))))

    pub met_next : AreMet (n + 1) pieces (IsListed numbers) held nets (set met p.net.0 true)
    met_next = record { each = length-set met p.net.0 true ∙ h.each; told = told_next; all = all_next }
