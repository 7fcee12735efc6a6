-- The connections that are made, as a list for each net.
use Rattle.std.specs.Prelude.{List, [], ◌∷◌, ◌++◌, slice_index_or, slice_set}
use Rattle.geo_rect.specs.declared.ids.NetId.{NetId}
use Rattle.board_model.specs.declared.made.Conn.{Conn}

-- the connections of a net
abbrev pub conns_of : List (List Conn) → NetId → List Conn
conns_of lists n = slice_index_or lists n.0 []

-- the lists with one more connection at the end of the net's, and each other list as it is
abbrev pub with_conn : List (List Conn) → NetId → Conn → List (List Conn)
with_conn lists n conn = slice_set lists n.0 (conns_of lists n ++ conn ∷ [])

-- the lists with the net's list empty, and each other list as it is
abbrev pub without_conns : List (List Conn) → NetId → List (List Conn)
without_conns lists n = slice_set lists n.0 []
