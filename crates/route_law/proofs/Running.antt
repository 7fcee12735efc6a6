-- A run goes on from where it stands.
use Rattle.std.proofs.Common.{ℕ, ◌≡◌, ◌+◌, refl, sym, subst, ap, List, [], ◌∷◌, ◌++◌, length, arith}
use Rattle.geo_rect.specs.declared.ids.NetId.{NetId}
use Rattle.board_parts.specs.declared.commands.Command.{Command}
use Rattle.board_model.specs.declared.made.Conn.{Conn}
use Rattle.board_parts.specs.declared.parts.BoardParts.{BoardParts}
use Rattle.board_model.specs.Made.{with_conn}
use Rattle.route_law.specs.declared.replies.Made1.{Made1}
use Rattle.route_law.specs.declared.replies.Reply.{Reply}
use Rattle.route_law.specs.declared.replies.Routed.{Routed}
use Rattle.route_law.specs.Routing.{IsNextConnection, AreMadeInTurn, IsRouted, AreRoutedFrom, net_at}
use Rattle.route_law.specs.Steps.{IsRunFrom, IsStep}

pub made-next : (b : BoardParts) (n : NetId) (old mid : List (List Conn)) (ms : List Made1) (m : Made1)
    → AreMadeInTurn b old n ms mid → IsNextConnection b mid n m → AreMadeInTurn b old n (ms ++ m ∷ []) (with_conn mid n m.conn)
made-next b n old mid [] m h k =
    (subst (λ (state : List (List Conn)). IsNextConnection b state n m) h k, ap (λ (state : List (List Conn)). with_conn state n m.conn) h)
made-next b n old mid (x ∷ ms) m h k = (h.0, made-next b n (with_conn old n x.conn) mid ms m h.1 k)

pub routed-next : (b : BoardParts) (n : ℕ) (old mid new : List (List Conn)) (rs : List Routed) (r : Routed)
    → AreRoutedFrom b n old rs mid → r.net ≡ net_at (n + length rs) → IsRouted b mid r new → AreRoutedFrom b n old (rs ++ r ∷ []) new
routed-next b n old mid new [] r h e k =
    (subst (λ (m : ℕ). r.net ≡ net_at m) (omega arith) e, new, subst (λ (state : List (List Conn)). IsRouted b state r new) h k, refl)
routed-next b n old mid new (x ∷ rs) r h e k =
    let e' : r.net ≡ net_at (n + 1 + length rs) = subst (λ (m : ℕ). r.net ≡ net_at m) (omega arith) e in
    (h.0, h.1, h.2, routed-next b (n + 1) h.1 mid new rs r h.3 e' k)

pub run-append : (b : BoardParts) (old mid new : List (List Conn)) (cs ds : List Command) (rs ss : List Reply)
    → IsRunFrom b old cs rs mid → IsRunFrom b mid ds ss new → IsRunFrom b old (cs ++ ds) (rs ++ ss) new
run-append b old mid new [] ds [] ss h k = subst (λ (state : List (List Conn)). IsRunFrom b state ds ss new) h k
run-append b old mid new [] ds (r ∷ rs) ss h k = absurd h
run-append b old mid new (c ∷ cs) ds [] ss h k = absurd h
run-append b old mid new (c ∷ cs) ds (r ∷ rs) ss h k = (h.0, h.1, run-append b h.0 mid new cs ds rs ss h.2 k)

pub run-next : (b : BoardParts) (old mid new : List (List Conn)) (cs : List Command) (c : Command) (rs : List Reply) (r : Reply)
    → IsRunFrom b old cs rs mid → IsStep b mid c r new → IsRunFrom b old (cs ++ c ∷ []) (rs ++ r ∷ []) new
run-next b old mid new cs c rs r h k = run-append b old mid new cs (c ∷ []) rs (r ∷ []) h (new, k, refl)
