-- A report by the groups that are listed is one by the pieces that are joined.
use Rattle.std.proofs.Common.{◌≡◌, ℕ, ◌<◌, List, length, get_or, subst, arith}
use Rattle.std.proofs.lemmas.Option.{slice_get-get_or}
use Rattle.geo_rect.specs.declared.ids.NetId.{NetId}
use Rattle.board_parts.specs.declared.parts.BoardParts.{BoardParts}
use Rattle.net_trace.specs.declared.copper.Piece.{Piece}
use Rattle.net_trace.specs.declared.traced.Group.{Group}
use Rattle.net_trace.specs.declared.traced.OpenNet.{OpenNet}
use Rattle.net_trace.specs.declared.traced.Short.{Short}
use Rattle.net_trace.specs.declared.traced.Traced.{Traced}
use Rattle.net_trace.specs.Report.{HasPiece, IsGroup, IsOpen, IsShort, IsEarlierGroup, IsEarlierNet, IsEarlierPair, IsReportBy}
use Rattle.net_trace.specs.Listing.{IsListed}
use Rattle.net_trace.specs.Touching.{IsLeastJoined, AreGroupNumbers}
use Rattle.net_trace.proofs.Listing.{list_same, count_same}

module _ (b : BoardParts) (pieces : List Piece) where
  -- by one relation, and by another that says the same
  module _ (In On : ℕ → ℕ → Type 0) (on : (i f : ℕ) → In i f → On i f) (back : (i f : ℕ) → On i f → In i f) where
    group_on : (g : Group) → IsGroup In g → IsGroup On g
    group_on g h = record { first = on g.first g.first h.first; size = count_same (λ i. In i g.first) (λ i. On i g.first) g.count (λ i. on i g.first) (λ i. back i g.first) h.size }

    has_on : (count : ℕ) (n : NetId) (f : ℕ) → HasPiece count pieces In n f → HasPiece count pieces On n f
    has_on count n f h = record { number = h.number; early = h.early; of_net = h.of_net; in_group = on h.number f h.in_group }

    short_on : (s : Short) → IsShort pieces In s → IsShort pieces On s
    short_on s h = record { earlier = h.earlier; group = h.group; of_a = has_on (length pieces) s.a h.group h.of_a; of_b = has_on (length pieces) s.b h.group h.of_b }

  open_on : (In On : ℕ → ℕ → Type 0) → ((i f : ℕ) → In i f → On i f) → ((i f : ℕ) → On i f → In i f) → (o : OpenNet) → IsOpen b pieces In o → IsOpen b pieces On o
  open_on In On on back o h = record {
    known = h.known;
    held = count_same (HasPiece (length b.pins) pieces In o.net) (HasPiece (length b.pins) pieces On o.net) o.groups (has_on In On on back (length b.pins) o.net) (has_on On In back on (length b.pins) o.net) h.held;
    several = h.several;
  }

  report_on : (In On : ℕ → ℕ → Type 0) → ((i f : ℕ) → In i f → On i f) → ((i f : ℕ) → On i f → In i f) → (r : Traced) → IsReportBy b pieces In r → IsReportBy b pieces On r
  report_on In On on back r h = record {
    size = h.size;
    groups = list_same IsEarlierGroup (IsGroup In) (IsGroup On) r.groups (group_on In On on back) (group_on On In back on) h.groups;
    opens = list_same IsEarlierNet (IsOpen b pieces In) (IsOpen b pieces On) r.opens (open_on In On on back) (open_on On In back on) h.opens;
    shorts = list_same IsEarlierPair (IsShort pieces In) (IsShort pieces On) r.shorts (short_on In On on back) (short_on On In back on) h.shorts;
  }

  module _ (numbers : List ℕ) (h : AreGroupNumbers pieces numbers) where
    -- the group of a piece is the one that is listed
    listed_from_joined : (i f : ℕ) → IsLeastJoined pieces i f → IsListed numbers i f
    listed_from_joined i f j =
        let l : i < length numbers = omega (arith, j.joined.known, h.each) in
        let e = slice_get-get_or numbers i 0 l in
        let k = h.least i (get_or numbers i 0) e in
        let same : get_or numbers i 0 ≡ f = omega (arith, k.least f j.joined, j.least (get_or numbers i 0) k.joined) in
        subst (IsListed numbers i) same e

    pub report_by_joined : (r : Traced) → IsReportBy b pieces (IsListed numbers) r → IsReportBy b pieces (IsLeastJoined pieces) r
    report_by_joined r q = report_on (IsListed numbers) (IsLeastJoined pieces) h.least listed_from_joined r q
