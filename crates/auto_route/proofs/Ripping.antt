-- To remove the connections of net after net leaves none.
use Rattle.std.proofs.Common.{ℕ, zero, suc, ◌≡◌, ◌+◌, ◌<◌, List, [], ◌∷◌, ◌++◌, length, drop, set, replicate, refl, ◌∙◌, ap, arith}
use Rattle.std.proofs.lemmas.List.{append-nil, drop_all}
use Rattle.geo_rect.specs.declared.ids.NetId.{NetId}
use Rattle.board_model.specs.declared.made.Conn.{Conn}
use Rattle.board_parts.specs.declared.parts.BoardParts.{BoardParts}
use Rattle.board_parts.specs.declared.commands.Command.TheVariants as command
use Rattle.board_model.specs.Made.{without_conns}
use Rattle.route_law.specs.declared.replies.Reply.{Reply}
use Rattle.route_law.specs.declared.replies.Reply.TheVariants as reply
use Rattle.route_law.specs.Steps.{IsStep, nothing_made}

-- the lists without the connections of the first k nets
abbrev pub ripped : ℕ → List (List Conn) → List (List Conn)
ripped k lists = replicate k [] ++ drop k lists

rip-suc : (k : ℕ) (lists : List (List Conn)) → k < length lists → set (ripped k lists) k [] ≡ ripped (suc k) lists
rip-suc zero [] l = absurd (omega (arith, l))
rip-suc zero (x ∷ xs) l = refl
rip-suc (suc k) [] l = absurd (omega (arith, l))
rip-suc (suc k) (x ∷ xs) l = let F : List (List Conn) → List (List Conn) = λ ls. [] ∷ ls in ap F (rip-suc k xs (omega (arith, l)))

-- a step that removes a net's connections leaves none of them
pub step_rips : (b : BoardParts) (old : List (List Conn)) (n : NetId) (r : Reply) (new : List (List Conn)) → IsStep b old (command.Rip n) r new → new ≡ without_conns old n
step_rips b old n (reply.Route x) new s = let e = s.asked in cc
step_rips b old n (reply.All rs) new s = let e = s.asked in cc
step_rips b old n (reply.Rip m k) new s =
    let e = s.asked in
    let same : m ≡ n = cc in
    s.answer.1 ∙ ap (λ (x : NetId). without_conns old x) same
step_rips b old n (reply.Show m k items) new s = let e = s.asked in cc
step_rips b old n (reply.Rules found) new s = let e = s.asked in cc
step_rips b old n (reply.Strips l c strips) new s = let e = s.asked in cc

-- those of one net more
pub rip_more : (k : ℕ) (n : NetId) (old mid new : List (List Conn)) → k < length old → n.0 ≡ k → mid ≡ ripped k old → new ≡ without_conns mid n → new ≡ ripped (k + 1) old
rip_more k n old mid new l e h g =
    let F : List (List Conn) → List (List Conn) = λ ls. set ls n.0 [] in
    let G : ℕ → List (List Conn) = λ i. set (ripped k old) i [] in
    let H : ℕ → List (List Conn) = λ i. ripped i old in
    let next : suc k ≡ k + 1 = omega arith in
    g ∙ ap F h ∙ ap G e ∙ rip-suc k old l ∙ ap H next

-- and at last those of all
pub all_ripped : (b : BoardParts) (k : ℕ) (old new : List (List Conn)) → k ≡ length b.net_names → length old ≡ length b.net_names → new ≡ ripped k old → new ≡ nothing_made b
all_ripped b k old new e l h =
    let F : List (List Conn) → List (List Conn) = λ ls. replicate k [] ++ ls in
    let G : ℕ → List (List Conn) = λ i. replicate i [] in
    h ∙ ap F (drop_all k old (omega (arith, e, l))) ∙ append-nil (replicate k []) ∙ ap G e
