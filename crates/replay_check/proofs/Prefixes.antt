-- Runs over the first commands and replies.
use Rattle.std.proofs.Common.{ℕ, zero, suc, ◌≡◌, ◌+◌, ◌<◌, ◌≤◌, ◌⊎◌, inl, inr, List, [], ◌∷◌, ◌++◌, length, take, refl, sym, ap, subst, arith}
use Rattle.std.proofs.lemmas.Bool.{cases_lt}
use Rattle.std.proofs.lemmas.List.{take_all, take-take, length-take-le}
use Rattle.board_parts.specs.declared.commands.Command.{Command}
use Rattle.board_model.specs.declared.made.Conn.{Conn}
use Rattle.board_parts.specs.declared.parts.BoardParts.{BoardParts}
use Rattle.route_law.specs.declared.replies.Reply.{Reply}
use Rattle.route_law.specs.Steps.{IsFirstWrong, IsRun, IsRunFrom, IsStep, nothing_made}
use Rattle.route_law.proofs.Running.{run-next}
use Rattle.replay_check.specs.Runs.{HasRun}
use Rattle.replay_check.proofs.Determined.{run_determined}

abbrev State : Type 0
State = List (List Conn)

-- a run leads from a state to some state
abbrev Leads : BoardParts → State → List Command → List Reply → Type 0
Leads b old cs rs = (new : State) × IsRunFrom b old cs rs new

module _ (b : BoardParts) where
  run_length : (old new : State) (cs : List Command) (rs : List Reply) → IsRunFrom b old cs rs new → length cs ≡ length rs
  run_length old new [] [] h = refl
  run_length old new [] (r ∷ rs) h = absurd h
  run_length old new (c ∷ cs) [] h = absurd h
  run_length old new (c ∷ cs) (r ∷ rs) h = let more = run_length h.0 new cs rs h.2 in grind (arith, more)

  -- each first part of a run is one
  run_take : (m : ℕ) (old new : State) (cs : List Command) (rs : List Reply) → IsRunFrom b old cs rs new → Leads b old (take m cs) (take m rs)
  run_take zero old new cs rs h = (old, refl)
  run_take (suc m) old new [] [] h = (new, h)
  run_take (suc m) old new [] (r ∷ rs) h = absurd h
  run_take (suc m) old new (c ∷ cs) [] h = absurd h
  run_take (suc m) old new (c ∷ cs) (r ∷ rs) h = let k = run_take m h.0 new cs rs h.2 in (k.0, (h.0, h.1, k.1))

  -- what a run over one pair more does last
  record EndsIn (old new : State) (cs : List Command) (c : Command) (rs : List Reply) (r : Reply) : Type 0 where
    pub mid : State
    pub before : IsRunFrom b old cs rs mid
    pub last : IsStep b mid c r new

  run_last : (old new : State) (cs : List Command) (c : Command) (rs : List Reply) (r : Reply) → length cs ≡ length rs → IsRunFrom b old (cs ++ c ∷ []) (rs ++ r ∷ []) new → EndsIn old new cs c rs r
  run_last old new [] c [] r e h =
      let P : State → Type 0 = λ s. IsStep b old c r s in
      record { mid = old; before = refl; last = subst P (sym h.2) h.1 }
  run_last old new [] c (s ∷ rs) r e h = absurd (omega (arith, e))
  run_last old new (d ∷ cs) c [] r e h = absurd (omega (arith, e))
  run_last old new (d ∷ cs) c (s ∷ rs) r e h =
      let same : length cs ≡ length rs = grind (arith, e) in
      let k = run_last h.0 new cs c rs r same h.2 in
      record { mid = k.mid; before = (h.0, h.1, k.before); last = k.last }

  -- where the last reply is no answer, there is no run
  no_last : (old mid : State) (cs : List Command) (c : Command) (rs : List Reply) (r : Reply) → IsRunFrom b old cs rs mid → ((new : State) → IsStep b mid c r new → ⊥) → (new : State) → IsRunFrom b old (cs ++ c ∷ []) (rs ++ r ∷ []) new → ⊥
  no_last old mid cs c rs r h wrong new k =
      let e = run_last old new cs c rs r (run_length old mid cs rs h) k in
      let P : State → Type 0 = λ s. IsStep b s c r new in
      wrong new (subst P (run_determined b old cs rs e.mid mid e.before h) e.last)

module _ (b : BoardParts) (cs : List Command) (rs : List Reply) where
  module _ (i : ℕ) (lists : State) (h : HasRun b cs rs i lists) where
    each_before : (m : ℕ) → m < i + 1 → IsRun b (take m cs) (take m rs)
    each_before m l =
        let below : m ≤ i = omega (arith, l) in
        let k = run_take b m (nothing_made b) lists (take i cs) (take i rs) h.run in
        let P : List Command → Type 0 = λ ds. Leads b (nothing_made b) ds (take m (take i rs)) in
        let Q : List Reply → Type 0 = λ ss. Leads b (nothing_made b) (take m cs) ss in
        subst Q (take-take m i rs below) (subst P (take-take m i cs below) k)

    pub wrong_next : (IsRun b (take (i + 1) cs) (take (i + 1) rs) → ⊥) → IsFirstWrong b cs rs (i + 1)
    wrong_next wrong = record { wrong = wrong; before = each_before }

    -- of the two lists one has ended, and the other has not
    pub one_too_many : length cs ≡ i → i < length rs → IsFirstWrong b cs rs (i + 1)
    one_too_many e l = wrong_next (λ k.
        let same = run_length b (nothing_made b) k.0 (take (i + 1) cs) (take (i + 1) rs) k.1 in
        let few = ap (λ (ds : List Command). length ds) (take_all (i + 1) cs (omega (arith, e))) in
        let more = length-take-le (i + 1) rs (omega (arith, l)) in
        omega (arith, same, few, more, e))

    pub one_is_missing : length rs ≡ i → i < length cs → IsFirstWrong b cs rs (i + 1)
    one_is_missing e l = wrong_next (λ k.
        let same = run_length b (nothing_made b) k.0 (take (i + 1) cs) (take (i + 1) rs) k.1 in
        let few = ap (λ (ss : List Reply). length ss) (take_all (i + 1) rs (omega (arith, e))) in
        let more = length-take-le (i + 1) cs (omega (arith, l)) in
        omega (arith, same, few, more, e))

    module _ (c : Command) (r : Reply) (in_commands : i < length cs) (in_replies : i < length rs) (next_command : take (i + 1) cs ≡ take i cs ++ c ∷ []) (next_reply : take (i + 1) rs ≡ take i rs ++ r ∷ []) where
      pub run_grows : (new : State) → IsStep b lists c r new → HasRun b cs rs (i + 1) new
      run_grows new step =
          let k = run-next b (nothing_made b) lists new (take i cs) c (take i rs) r h.run step in
          let P : List Command → Type 0 = λ ds. IsRunFrom b (nothing_made b) ds (take i rs ++ r ∷ []) new in
          let Q : List Reply → Type 0 = λ ss. IsRunFrom b (nothing_made b) (take (i + 1) cs) ss new in
          record {
            some_commands = omega (arith, in_commands);
            some_replies = omega (arith, in_replies);
            run = subst Q (sym next_reply) (subst P (sym next_command) k);
          }

      pub is_wrong : ((new : State) → IsStep b lists c r new → ⊥) → IsFirstWrong b cs rs (i + 1)
      is_wrong wrong = wrong_next (λ k.
          let P : List Command → Type 0 = λ ds. IsRunFrom b (nothing_made b) ds (take (i + 1) rs) k.0 in
          let Q : List Reply → Type 0 = λ ss. IsRunFrom b (nothing_made b) (take i cs ++ c ∷ []) ss k.0 in
          no_last b (nothing_made b) lists (take i cs) c (take i rs) r h.run wrong k.0 (subst Q next_reply (subst P next_command k.1)))

  -- where some reply is the first wrong one, there is no run
  pub wrong_is_no_run : (n : ℕ) → IsFirstWrong b cs rs n → IsRun b cs rs → ⊥
  wrong_is_no_run n w k = w.wrong (run_take b n (nothing_made b) k.0 cs rs k.1)

  -- no two replies are the first wrong one
  pub one_is_first : (m n : ℕ) → IsFirstWrong b cs rs m → IsFirstWrong b cs rs n → m ≡ n
  one_is_first m n h k = by (cases_lt m n) (cases_lt n m)
    where
      by : (m < n) ⊎ (n ≤ m) → (n < m) ⊎ (m ≤ n) → m ≡ n
      by (inl l) d = absurd (h.wrong (k.before m l))
      by (inr l) (inl d) = absurd (k.wrong (h.before n d))
      by (inr l) (inr d) = omega (arith, l, d)
