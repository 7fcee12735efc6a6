-- A command and its reply determine the state to which they lead.
use Rattle.std.proofs.Common.{ℕ, ◌≡◌, ◌+◌, List, [], ◌∷◌, sym, ◌∙◌, subst}
use Rattle.geo_rect.specs.declared.ids.NetId.{NetId}
use Rattle.board_parts.specs.declared.commands.Command.{Command}
use Rattle.board_model.specs.declared.made.Conn.{Conn}
use Rattle.board_parts.specs.declared.parts.BoardParts.{BoardParts}
use Rattle.board_model.specs.Made.{with_conn}
use Rattle.route_law.specs.declared.replies.Made1.{Made1}
use Rattle.route_law.specs.declared.replies.Reply.{Reply}
use Rattle.route_law.specs.declared.replies.Reply.TheVariants.{Route, All, Rip, Show, Rules, Strips}
use Rattle.route_law.specs.declared.replies.Routed.{Routed}
use Rattle.route_law.specs.Routing.{AreMadeInTurn, IsRouted, AreRoutedFrom}
use Rattle.route_law.specs.Steps.{IsAnswer, IsRunFrom, IsStep}

abbrev State : Type 0
State = List (List Conn)

module _ (b : BoardParts) where
  pub made_determined : (old : State) (n : NetId) (ms : List Made1) (x y : State) → AreMadeInTurn b old n ms x → AreMadeInTurn b old n ms y → x ≡ y
  made_determined old n [] x y h k = h ∙ sym k
  made_determined old n (m ∷ ms) x y h k = made_determined (with_conn old n m.conn) n ms x y h.1 k.1

  pub routed_determined : (old : State) (r : Routed) (x y : State) → IsRouted b old r x → IsRouted b old r y → x ≡ y
  routed_determined old r x y h k = made_determined old r.net r.made x y h.made k.made

  all_determined : (n : ℕ) (old : State) (rs : List Routed) (x y : State) → AreRoutedFrom b n old rs x → AreRoutedFrom b n old rs y → x ≡ y
  all_determined n old [] x y h k = h ∙ sym k
  all_determined n old (r ∷ rs) x y h k =
      let P : State → Type 0 = λ s. AreRoutedFrom b (n + 1) s rs x in
      all_determined (n + 1) k.1 rs x y (subst P (routed_determined old r h.1 k.1 h.2 k.2) h.3) k.3

  answer_determined : (old : State) (r : Reply) (x y : State) → IsAnswer b old r x → IsAnswer b old r y → x ≡ y
  answer_determined old (Route r) x y h k = routed_determined old r x y h k
  answer_determined old (All rs) x y h k = all_determined 0 old rs x y h.1 k.1
  answer_determined old (Rip n m) x y h k = h.1 ∙ sym k.1
  answer_determined old (Show n m items) x y h k = h.2 ∙ sym k.2
  answer_determined old (Rules found) x y h k = h.1 ∙ sym k.1
  answer_determined old (Strips l c strips) x y h k = h.1 ∙ sym k.1

  step_determined : (old : State) (c : Command) (r : Reply) (x y : State) → IsStep b old c r x → IsStep b old c r y → x ≡ y
  step_determined old c r x y h k = answer_determined old r x y h.answer k.answer

  -- a run ends in one state
  pub run_determined : (old : State) (cs : List Command) (rs : List Reply) (x y : State) → IsRunFrom b old cs rs x → IsRunFrom b old cs rs y → x ≡ y
  run_determined old [] [] x y h k = h ∙ sym k
  run_determined old [] (r ∷ rs) x y h k = absurd h
  run_determined old (c ∷ cs) [] x y h k = absurd h
  run_determined old (c ∷ cs) (r ∷ rs) x y h k =
      let P : State → Type 0 = λ s. IsRunFrom b s cs rs x in
      run_determined k.0 cs rs x y (subst P (step_determined old c r h.0 k.0 h.1 k.1) h.2) k.2
