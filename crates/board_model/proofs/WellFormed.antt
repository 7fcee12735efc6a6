-- Which lists of connections are well formed.
use Rattle.std.proofs.Common.{◌≡◌, ◌<◌, List, [], length, All, sym, subst}
use Rattle.std.proofs.lemmas.List.Elements.{All-nil, All-push, All-get_or, All-set, All-weaker}
use Rattle.geo_rect.specs.declared.ids.NetId.{NetId}
use Rattle.board_parts.specs.declared.parts.BoardParts.{BoardParts}
use Rattle.board_model.specs.declared.made.Conn.{Conn}
use Rattle.board_model.specs.Made.{conns_of, with_conn}
use Rattle.board_model.specs.WellFormed.{IsWellFormed, AreWellFormed}

module _ (b : BoardParts) (lists : List (List Conn)) where
  -- empty lists are well formed
  pub none_well_formed : All (λ conns. conns ≡ []) lists → AreWellFormed b lists
  none_well_formed h = All-weaker (λ conns. conns ≡ []) (All (IsWellFormed b)) (λ conns e. subst (All (IsWellFormed b)) (sym e) (All-nil (IsWellFormed b))) lists h

  -- the list of a net is well formed, where all lists are
  pub conns_well_formed : (n : NetId) → n.0 < length lists → AreWellFormed b lists → All (IsWellFormed b) (conns_of lists n)
  conns_well_formed n l w = All-get_or (All (IsWellFormed b)) lists n.0 [] l w

  -- well-formed lists stay so with one more well-formed connection
  pub with_conn_well_formed : (n : NetId) (conn : Conn) → n.0 < length lists → AreWellFormed b lists → IsWellFormed b conn → AreWellFormed b (with_conn lists n conn)
  with_conn_well_formed n conn l w h =
      All-set (All (IsWellFormed b)) lists n.0 _ (All-push (IsWellFormed b) (conns_of lists n) conn (conns_well_formed n l w) h) w
