-- A report of a state names what is there.
use Rattle.std.proofs.Common.{ℕ, ◌<◌, ◌≤◌, List, length, get_or, All, subst, arith}
use Rattle.std.specs.Prelude.{Contains}
use Rattle.std.specs.List.{range_with_len}
use Rattle.std.proofs.lemmas.List.Elements.{Contains-get_or}
use Rattle.std.proofs.lemmas.List.FromFn.{length-range_with_len, get_or-range_with_len}
use Rattle.board_parts.specs.declared.parts.BoardParts.{BoardParts}
use Rattle.geo_rect.specs.declared.ids.NetId.{NetId}
use Rattle.net_trace.specs.declared.copper.Piece.{Piece}
use Rattle.net_trace.specs.declared.traced.Group.{Group}
use Rattle.net_trace.specs.declared.traced.Short.{Short}
use Rattle.net_trace.specs.declared.traced.Traced.{Traced}
use Rattle.net_trace.specs.Named.{IsNetThere, IsGroupThere, IsShortThere, NamesWhatIsThere}
use Rattle.net_trace.specs.Report.{IsCount, HasPiece, IsGroup, IsShort, IsReportBy}
use Rattle.net_trace.specs.Touching.{IsLeastJoined}
use Rattle.net_trace.proofs.KnownNets.{net_is_known}
use Rattle.net_trace.proofs.Listing.{no_more_than}

-- each of so many numbers is in their list
number_listed : (n q : ℕ) → q < n → Contains (range_with_len 0 n) q
number_listed n q l = let e = length-range_with_len 0 n in (q, omega (arith, e, l), omega (arith, get_or-range_with_len 0 n q q l))

-- there are at most so many numbers below a bound
count_few : (P : ℕ → Type 0) (n c : ℕ) → ((i : ℕ) → P i → i < n) → IsCount P c → c ≤ n
count_few P n c l h =
    let m = no_more_than P h.numbers (range_with_len 0 n) h.lists (λ q p. number_listed n q (l q p)) in
    omega (arith, m, h.many, length-range_with_len 0 n)

module _ (b : BoardParts) (pieces : List Piece) (known : All (λ (p : Piece). p.net.0 < length b.net_names) pieces) (traced : Traced) (h : IsReportBy b pieces (IsLeastJoined pieces) traced) where
  group_there : (g : Group) → IsGroup (IsLeastJoined pieces) g → IsGroupThere traced.pieces g
  group_there g k =
      let l : g.count ≤ length pieces = count_few (λ i. IsLeastJoined pieces i g.first) (length pieces) g.count (λ i j. j.joined.known) k.size in
      record { first_there = omega (arith, h.size, k.first.joined.known); few = omega (arith, h.size, l) }

  net_there : (count f : ℕ) (n : NetId) → HasPiece count pieces (IsLeastJoined pieces) n f → IsNetThere b n
  net_there count f n k =
      subst (IsNetThere b) k.of_net.net (net_is_known b pieces known k.number k.of_net.piece k.of_net.here)

  short_there : (s : Short) → IsShort pieces (IsLeastJoined pieces) s → IsShortThere b s
  short_there s k = record { a_there = net_there (length pieces) k.group s.a k.of_a; b_there = net_there (length pieces) k.group s.b k.of_b }

  pub names_what_is_there : NamesWhatIsThere b traced
  names_what_is_there = record {
    groups_there = λ i d l. let g = get_or traced.groups i d in group_there g (h.groups.each g (Contains-get_or traced.groups i d l));
    opens_there = λ i d l. let o = get_or traced.opens i d in (h.opens.each o (Contains-get_or traced.opens i d l)).known;
    shorts_there = λ i d l. let s = get_or traced.shorts i d in short_there s (h.shorts.each s (Contains-get_or traced.shorts i d l));
  }
