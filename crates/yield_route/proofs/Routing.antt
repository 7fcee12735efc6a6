-- The run in which nets are ripped up, and then one is routed.
use Rattle.std.proofs.Common.{ℕ, ◌≡◌, ◌+◌, ◌<◌, List, [], ◌∷◌, ◌++◌, length, get_or, take, sym, ◌∙◌, ap, subst}
use Rattle.std.proofs.lemmas.List.{map-append, take_more}
use Rattle.geo_rect.specs.declared.ids.NetId.{NetId}
use Rattle.board_parts.specs.declared.commands.Command.{Command}
use Rattle.board_parts.specs.declared.commands.Command.TheVariants as command
use Rattle.board_parts.specs.declared.parts.BoardParts.{BoardParts}
use Rattle.board_model.specs.declared.made.Conn.{Conn}
use Rattle.route_law.specs.declared.replies.Reply.{Reply}
use Rattle.route_law.specs.Steps.{IsRunFrom, IsStep}
use Rattle.route_law.proofs.Running.{run-next}
use Rattle.yield_route.specs.declared.told.Ripped.{Ripped}
use Rattle.yield_route.specs.Yielding.{rip_replies, rip_reply, rips_of}

abbrev State : Type 0
State = List (List Conn)

-- one net more is ripped up
pub rips_more : (b : BoardParts) (old mid new : State) (nets : List NetId) (i : ℕ) (d : NetId) (told : List Ripped) (r : Ripped) → i < length nets → IsRunFrom b old (rips_of (take i nets)) (rip_replies told) mid → IsStep b mid (command.Rip (get_or nets i d)) (rip_reply r) new → IsRunFrom b old (rips_of (take (i + 1) nets)) (rip_replies (told ++ r ∷ [])) new
rips_more b old mid new nets i d told r l h step =
    let n = get_or nets i d in
    let rip : NetId → Command = λ m. command.Rip m in
    let P : List Command → Type 0 = λ cs. IsRunFrom b old cs (rip_replies told ++ rip_reply r ∷ []) new in
    let Q : List Reply → Type 0 = λ rs. IsRunFrom b old (rips_of (take (i + 1) nets)) rs new in
    let commands : rips_of (take (i + 1) nets) ≡ rips_of (take i nets) ++ command.Rip n ∷ [] = ap rips_of (take_more nets i d l) ∙ map-append rip (take i nets) (n ∷ []) in
    subst Q (sym (map-append rip_reply told (r ∷ [])))
    (subst P (sym commands) (run-next b old mid new (rips_of (take i nets)) (command.Rip n) (rip_replies told) (rip_reply r) h step))
