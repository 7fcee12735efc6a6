use Rattle.std.proofs.Common.{List, All, map, sym, ◌∙◌, ap, subst}
use Rattle.std.proofs.lemmas.List.Elements.{All-map}
use Rattle.board_parts.specs.declared.commands.Command.TheVariants as command
use Rattle.board_parts.specs.declared.parts.BoardParts.{BoardParts}
use Rattle.board_model.specs.declared.made.Conn.{Conn}
use Rattle.route_law.specs.declared.replies.Reply.TheVariants as reply
use Rattle.route_law.specs.Regular.{IsRegularRouted}
use Rattle.route_law.specs.Steps.{IsStep}
use Rattle.route_law.proofs.Running.{run-next}
use Rattle.yield_route.specs.declared.asides.Aside.{Aside}
use Rattle.yield_route.specs.Named.{IsAsideOf, IsBackOf}
use Rattle.yield_route.specs.Yielding.{AreBack, aside_of, rip_replies, rips_of}
use Rattle.yield_route.proofs.runs.through.Goals as goal

pub give_back-requires : goal.give_back-requires
give_back-requires g c =
    let b = c.args.s.parts in
    let others = c.args.others.now in
    let board = c.in_ok-s-2.ensures.board ∙ c.in_ok-s.ensures.board in
    let P : List Aside → Type 0 = λ asides. All (IsAsideOf b) asides in
    let Q : BoardParts → Type 0 = λ p. All (IsAsideOf p) c.as_slice.result.now in
    let known = All-map (IsAsideOf b) (aside_of c.made.result.now.lists) others c.requires.others in
    record { nets = subst Q (sym board) (subst P (sym (c.as_slice.ensures ∙ c.in_ok-asides.ensures)) known) }

pub returns-clause-run : goal.returns-clause-run
returns-clause-run g c =
    let b = c.args.s.parts in
    let old = c.args.s.lists in
    let net = c.args.net in
    let others = c.args.others.now in
    let cleared = c.in_ok-s.s.lists in
    let ripped = c.in_ok-s.ripped in
    let state = c.in_ok-s-2.s.lists in
    let routed = c.in_ok-s-2.routed in
    let back = c.in_ok-s-3.back in
    let new = c.in_ok-s-3.s.lists in
    let board = c.in_ok-s-2.ensures.board ∙ c.in_ok-s.ensures.board in
    let S : BoardParts → Type 0 = λ p. IsStep p cleared (command.Route net) (reply.Route routed) state in
    let F : List (List Conn) → List Aside = λ lists. map (aside_of lists) others in
    let asides = c.as_slice.ensures ∙ c.in_ok-asides.ensures ∙ ap F c.made.ensures.lists in
    let B : BoardParts → Type 0 = λ p. AreBack p state c.as_slice.result.now back new in
    let A : List Aside → Type 0 = λ xs. AreBack b state xs back new in
    record {
      routed_state = state;
      steps = run-next b old cleared state (rips_of others) (command.Route net) (rip_replies ripped) (reply.Route routed) c.in_ok-s.ensures.run (subst S c.in_ok-s.ensures.board c.in_ok-s-2.ensures.step);
      given_back = subst A asides (subst B board c.in_ok-s-3.ensures.back);
    }

pub returns-clause-regular : goal.returns-clause-regular
returns-clause-regular g c =
    let board = c.in_ok-s-2.ensures.board ∙ c.in_ok-s.ensures.board in
    let R : BoardParts → Type 0 = λ p. IsRegularRouted p c.in_ok-s-2.routed in
    let B : BoardParts → Type 0 = λ p. All (IsBackOf p) c.in_ok-s-3.back in
    record {
      ripped = c.in_ok-s.ensures.regular;
      routed = subst R c.in_ok-s.ensures.board c.in_ok-s-2.ensures.regular;
      back = subst B board c.in_ok-s-3.ensures.regular;
    }
