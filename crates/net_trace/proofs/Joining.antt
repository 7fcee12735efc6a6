-- Touching goes both ways, and chains of it join end to end.
use Rattle.std.proofs.Common.{ℕ, ◌≡◌, ◌<◌, ◌≤◌, List, [], ◌∷◌, ◌++◌, length, sym, refl, subst, arith}
use Rattle.std.proofs.lemmas.Option.{slice_get_within}
use Rattle.geo_rect.specs.declared.ids.Spot.{Spot}
use Rattle.net_trace.specs.declared.copper.Piece.{Piece}
use Rattle.net_trace.specs.Touching.{SharePoint, Touch, AreTouching, IsChain, AreJoined, IsLeastJoined}

SharePoint-flip : (s t : Spot) → SharePoint s t → SharePoint t s
SharePoint-flip s t h = record { same_layer = sym h.same_layer; point = h.point; of_first = h.of_second; of_second = h.of_first }

pub Touch-flip : (a b : Piece) → Touch a b → Touch b a
Touch-flip a b h = record {
  one = h.other;
  other = h.one;
  one_listed = h.other_listed;
  other_listed = h.one_listed;
  share = SharePoint-flip h.one h.other h.share;
}

module _ (pieces : List Piece) where
  pub AreTouching-flip : (i j : ℕ) → AreTouching pieces i j → AreTouching pieces j i
  AreTouching-flip i j h = record {
    first = h.second;
    second = h.first;
    is_first = h.is_second;
    is_second = h.is_first;
    touch = Touch-flip h.first h.second h.touch;
  }

  pub first_known : (i j : ℕ) → AreTouching pieces i j → i < length pieces
  first_known i j h = slice_get_within pieces i h.first h.is_first

  pub second_known : (i j : ℕ) → AreTouching pieces i j → j < length pieces
  second_known i j h = slice_get_within pieces j h.second h.is_second

  -- a chain begins with a touch
  pub joined_by_touch : (i k j : ℕ) → AreTouching pieces i k → AreJoined pieces k j → AreJoined pieces i j
  joined_by_touch i k j t h = record { known = first_known i k t; numbers = k ∷ h.numbers; chain = (t, h.chain) }

  -- chains join end to end
  chain_on : (i j k : ℕ) (ms ns : List ℕ) → IsChain pieces i ms j → IsChain pieces j ns k → IsChain pieces i (ms ++ ns) k
  chain_on i j k [] ns c d = subst (λ m. IsChain pieces m ns k) (sym c) d
  chain_on i j k (m ∷ ms) ns c d = (c.0, chain_on m j k ms ns c.1 d)

  pub joined_on : (i j k : ℕ) → AreJoined pieces i j → AreJoined pieces j k → AreJoined pieces i k
  joined_on i j k h g = record { known = h.known; numbers = h.numbers ++ g.numbers; chain = chain_on i j k h.numbers g.numbers h.chain g.chain }

  -- pieces that are joined both ways are in one group
  pub one_group : (i j m n : ℕ) → AreJoined pieces i j → AreJoined pieces j i → IsLeastJoined pieces i m → IsLeastJoined pieces j n → m ≡ n
  one_group i j m n h g a b =
      let l : m ≤ n = a.least n (joined_on i j n h b.joined) in
      let k : n ≤ m = b.least m (joined_on j i m g a.joined) in
      omega arith

  pub joined_to_itself : (i : ℕ) → i < length pieces → AreJoined pieces i i
  joined_to_itself i l = record { known = l; numbers = []; chain = refl }

  -- a piece that touches another is in its group
  pub IsLeastJoined-touch : (i j n : ℕ) → AreTouching pieces i j → IsLeastJoined pieces i n → IsLeastJoined pieces j n
  IsLeastJoined-touch i j n t h = record {
    joined = joined_by_touch j i n (AreTouching-flip i j t) h.joined;
    least = λ m g. h.least m (joined_by_touch i j m t g);
  }
