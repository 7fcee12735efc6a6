-- A connection as a reply lists it.
use Rattle.std.specs.Prelude.{ℕ}
use Rattle.board_model.specs.declared.made.Conn.{Conn}
use Rattle.route_law.specs.declared.replies.Item.{Item}

-- a connection with its number
abbrev pub item_at : ℕ → Conn → Item
item_at k c = record { number = k; conn = c }
