-- When the pins of a net are joined, and when no pins of different nets touch.
use Rattle.std.specs.Prelude.{ℕ, ◌≡◌, ◌≢◌, List, Contains, Some, slice_get}
use Rattle.geo_rect.specs.declared.ids.NetId.{NetId}
use Rattle.board_model.specs.declared.made.Conn.{Conn}
use Rattle.board_parts.specs.declared.parts.BoardParts.{BoardParts}
use Rattle.board_parts.specs.declared.parts.Pin.{Pin}
use Rattle.net_trace.specs.Pieces.{pin_piece, pieces_of}
use Rattle.net_trace.specs.Touching.{Touch, AreJoined}

-- pin number i of the board, from 0, is one of the net
pub record IsPinOf (b : BoardParts) (n : NetId) (i : ℕ) : Type 0 where
  pub pin : Pin
  pub here : slice_get b.pins i ≡ Some pin
  pub net : pin.net ≡ n

-- from each pin of the net a chain of touching leads to each pin of the net: among the pieces of a state, piece
-- number i is pin number i of the board
abbrev pub ArePinsJoined : BoardParts → List (List Conn) → NetId → Type 0
ArePinsJoined b lists n = (i j : ℕ) → IsPinOf b n i → IsPinOf b n j → AreJoined (pieces_of b lists) i j

-- no two pins of different nets touch
abbrev pub KeepPinsApart : BoardParts → Type 0
KeepPinsApart b = (p q : Pin) → Contains b.pins p → Contains b.pins q → p.net ≢ q.net → Touch (pin_piece p) (pin_piece q) → ⊥
