-- How a round goes on: the state to which the routing of nets leads.
use Rattle.std.proofs.Common.{ℕ, zero, suc, ◌≡◌, ◌+◌, ◌<◌, List, [], ◌∷◌, ◌++◌, length, take, get_or, All, refl, sym, ◌∙◌, ap, subst, arith}
use Rattle.std.proofs.lemmas.List.{map-append, take_more}
use Rattle.std.proofs.lemmas.List.Elements.{All-push}
use Rattle.geo_rect.specs.declared.ids.NetId.{NetId}
use Rattle.board_parts.specs.declared.commands.Command.TheVariants as command
use Rattle.board_model.specs.declared.made.Conn.{Conn}
use Rattle.board_parts.specs.declared.parts.BoardParts.{BoardParts}
use Rattle.board_model.specs.Made.{with_conn}
use Rattle.route_law.specs.declared.replies.Made1.{Made1}
use Rattle.route_law.specs.declared.replies.Reply.{Reply}
use Rattle.route_law.specs.declared.replies.Reply.TheVariants as reply
use Rattle.route_law.specs.declared.replies.Routed.{Routed}
use Rattle.route_law.specs.Regular.{IsRegular, IsRegularRouted}
use Rattle.route_law.specs.Routing.{AreMadeInTurn, IsRouted}
use Rattle.route_law.specs.Steps.{IsStep, command_of}
use Rattle.auto_route.specs.Rounds.{AreRouted, order_of}
use Rattle.auto_route.specs.States.{after_net, after_nets, with_made}

-- connections that are made one after another are appended one after another
made_is : (b : BoardParts) (old : List (List Conn)) (n : NetId) (ms : List Made1) (new : List (List Conn)) → AreMadeInTurn b old n ms new → new ≡ with_made old n ms
made_is b old n [] new h = h
made_is b old n (m ∷ ms) new h = made_is b (with_conn old n m.conn) n ms new h.1

-- the state to which a net's routing leads
pub routed_is : (b : BoardParts) (old : List (List Conn)) (r : Routed) (new : List (List Conn)) → IsRouted b old r new → new ≡ after_net old r
routed_is b old r new h = made_is b old r.net r.made new h.made

pub routed_so : (b : BoardParts) (old : List (List Conn)) (r : Routed) (new : List (List Conn)) → IsRouted b old r new → IsRouted b old r (after_net old r)
routed_so b old r new h = subst (λ (ls : List (List Conn)). IsRouted b old r ls) (routed_is b old r new h) h

-- a reply to the routing of a net tells of a net
pub only_routed : (n : NetId) (r : Reply) → command.Route n ≡ command_of r → ((x : Routed) → r ≡ reply.Route x → ⊥) → ⊥
only_routed n (reply.Route x) e f = f x refl
only_routed n (reply.All rs) e f = cc
only_routed n (reply.Rip m k) e f = cc
only_routed n (reply.Show m k items) e f = cc
only_routed n (reply.Rules found) e f = cc
only_routed n (reply.Strips l c strips) e f = cc

module _ (b : BoardParts) (old : List (List Conn)) (n : NetId) (whole : Reply) (new : List (List Conn)) (r : Routed) (is : whole ≡ reply.Route r) where
  step_of : IsStep b old (command.Route n) whole new → IsStep b old (command.Route n) (reply.Route r) new
  step_of step = subst (λ (x : Reply). IsStep b old (command.Route n) x new) is step

  pub step_routed : IsStep b old (command.Route n) whole new → IsRouted b old r new
  step_routed step = (step_of step).answer

  pub step_net : IsStep b old (command.Route n) whole new → r.net ≡ n
  step_net step = let e = (step_of step).asked in cc

  pub step_regular : IsRegular b whole → IsRegularRouted b r
  step_regular h = subst (λ (x : Reply). IsRegular b x) is h

-- the state after one net more
pub after_nets-append_one : (lists : List (List Conn)) (rs : List Routed) (r : Routed) → after_nets lists (rs ++ r ∷ []) ≡ after_net (after_nets lists rs) r
after_nets-append_one lists [] r = refl
after_nets-append_one lists (x ∷ rs) r = after_nets-append_one (after_net lists x) rs r

-- one net more was routed
routed-next : (b : BoardParts) (lists : List (List Conn)) (rs : List Routed) (r : Routed) → AreRouted b lists rs → IsRouted b (after_nets lists rs) r (after_net (after_nets lists rs) r) → AreRouted b lists (rs ++ r ∷ [])
routed-next b lists [] r h k = (k, tt)
routed-next b lists (x ∷ rs) r h k = (h.0, routed-next b (after_net lists x) rs r h.1 k)

pub routed_more : (b p : BoardParts) (first mid : List (List Conn)) (rs after : List Routed) (r : Routed) → p ≡ b → after ≡ rs ++ r ∷ [] → mid ≡ after_nets first rs → AreRouted b first rs → IsRouted p mid r (after_net mid r) → AreRouted b first after
routed_more b p first mid rs after r same e m h k =
    let P : List (List Conn) → Type 0 = λ ls. IsRouted b ls r (after_net ls r) in
    let here : IsRouted b mid r (after_net mid r) = subst (λ (q : BoardParts). IsRouted q mid r (after_net mid r)) same k in
    subst (AreRouted b first) (sym e) (routed-next b first rs r h (subst P m here))

pub regular_more : (b p : BoardParts) (rs after : List Routed) (r : Routed) → p ≡ b → after ≡ rs ++ r ∷ [] → All (IsRegularRouted b) rs → IsRegularRouted p r → All (IsRegularRouted b) after
regular_more b p rs after r same e h k =
    let here : IsRegularRouted b r = subst (λ (q : BoardParts). IsRegularRouted q r) same k in
    subst (All (IsRegularRouted b)) (sym e) (All-push (IsRegularRouted b) rs r h here)

pub state_more : (first mid new : List (List Conn)) (rs after : List Routed) (r : Routed) → after ≡ rs ++ r ∷ [] → mid ≡ after_nets first rs → new ≡ after_net mid r → new ≡ after_nets first after
state_more first mid new rs after r e m h =
    let F : List (List Conn) → List (List Conn) = λ ls. after_net ls r in
    let G : List Routed → List (List Conn) = λ xs. after_nets first xs in
    h ∙ ap F m ∙ sym (after_nets-append_one first rs r) ∙ ap G (sym e)

pub order_more : (rs after : List Routed) (r : Routed) (order : List NetId) (i : ℕ) (d : NetId) → after ≡ rs ++ r ∷ [] → order_of rs ≡ take i order → i < length order → r.net ≡ get_or order i d → order_of after ≡ take (i + 1) order
order_more rs after r order i d e h l net =
    let net_of : Routed → NetId = λ x. x.net in
    let F : List Routed → List NetId = λ xs. order_of xs in
    let G : List NetId → List NetId = λ ns. ns ++ r.net ∷ [] in
    let H : NetId → List NetId = λ m. take i order ++ m ∷ [] in
    ap F e ∙ map-append net_of rs (r ∷ []) ∙ ap G h ∙ ap H net ∙ sym (take_more order i d l)

-- what came of a net of a round, in the state to which those before it lead
pub routed_at : (b : BoardParts) (lists : List (List Conn)) (rs : List Routed) (i : ℕ) (r : Routed) → i < length rs → r ≡ get_or rs i r → AreRouted b lists rs → IsRouted b (after_nets lists (take i rs)) r (after_net (after_nets lists (take i rs)) r)
routed_at b lists [] i r l is h = absurd (omega (arith, l))
routed_at b lists (x ∷ rs) zero r l is h = subst (λ (y : Routed). IsRouted b lists y (after_net lists y)) (sym is) h.0
routed_at b lists (x ∷ rs) (suc i) r l is h = routed_at b (after_net lists x) rs i r (omega (arith, l)) is h.1

-- it was routed in the state that these have led to
pub routed_here : (b p : BoardParts) (lists mid : List (List Conn)) (rs : List Routed) (i : ℕ) (r : Routed) → p ≡ b → mid ≡ after_nets lists (take i rs) → i < length rs → r ≡ get_or rs i r → AreRouted b lists rs → IsRouted p mid r (after_net mid r)
routed_here b p lists mid rs i r e m l is h =
    let P : BoardParts → List (List Conn) → Type 0 = λ q ls. IsRouted q ls r (after_net ls r) in
    subst (λ (q : BoardParts). P q mid) (sym e) (subst (P b) (sym m) (routed_at b lists rs i r l is h))

pub state_at : (lists : List (List Conn)) (rs : List Routed) (i : ℕ) (r : Routed) (mid new : List (List Conn)) → i < length rs → r ≡ get_or rs i r → mid ≡ after_nets lists (take i rs) → new ≡ after_net mid r → new ≡ after_nets lists (take (i + 1) rs)
state_at lists rs i r mid new l is m h =
    let F : Routed → List Routed = λ x. take i rs ++ x ∷ [] in
    state_more lists mid new (take i rs) (take (i + 1) rs) r (take_more rs i r l ∙ ap F (sym is)) m h
