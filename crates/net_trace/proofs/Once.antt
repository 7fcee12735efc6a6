-- A state has one report: lists that have exactly the same things in one order are one.
use Rattle.std.proofs.Common.{◌≡◌, ℕ, suc, ◌⊎◌, inl, inr, List, [], ◌∷◌, refl, ap, sym, ◌∙◌, subst, arith}
use Rattle.std.specs.Prelude.{AllPairs, Contains}
use Rattle.plane_core.proofs.Members.{has_head, has_tail, has_cases, has_none}
use Rattle.geo_rect.specs.declared.ids.NetId.{NetId}
use Rattle.board_model.specs.declared.made.Conn.{Conn}
use Rattle.board_parts.specs.declared.parts.BoardParts.{BoardParts}
use Rattle.net_trace.specs.declared.copper.Piece.{Piece}
use Rattle.net_trace.specs.declared.traced.Group.{Group}
use Rattle.net_trace.specs.declared.traced.OpenNet.{OpenNet}
use Rattle.net_trace.specs.declared.traced.Short.{Short}
use Rattle.net_trace.specs.declared.traced.Traced.{Traced}
use Rattle.net_trace.specs.Pieces.{pieces_of}
use Rattle.net_trace.specs.Report.{IsListOf, IsGroup, IsOpen, IsShort, IsEarlierGroup, IsEarlierNet, IsEarlierPair, by_first, by_second, IsReportBy, IsReport}
use Rattle.net_trace.specs.Touching.{IsLeastJoined}
use Rattle.net_trace.specs.Texts.{report_text, IsTraceText}

module _ {X : Type 0} (R : X → X → Type 0) (no_back : (x y : X) → R x y → R y x → ⊥) where
  -- the first comes before each of the others, and these are in order
  first_before : (x : X) (xs : List X) → AllPairs R (x ∷ xs) → (y : X) → Contains xs y → R x y
  first_before x xs o y c = subst (R x) c.2 (o 0 (suc c.0) y (omega arith) (omega (arith, c.1)))

  rest_ordered : (x : X) (xs : List X) → AllPairs R (x ∷ xs) → AllPairs R xs
  rest_ordered x xs o i j d l k = o (suc i) (suc j) d (omega (arith, l)) (omega (arith, k))

  firsts_meet : (x y : X) (xs ys : List X) → AllPairs R (x ∷ xs) → AllPairs R (y ∷ ys) → (y ≡ x) ⊎ Contains ys x → (x ≡ y) ⊎ Contains xs y → x ≡ y
  firsts_meet x y xs ys o q (inl e) c = sym e
  firsts_meet x y xs ys o q (inr h) (inl e) = e
  firsts_meet x y xs ys o q (inr h) (inr k) = absurd (no_back x y (first_before x xs o y k) (first_before y ys q x h))

  -- what is behind the first of the one list is behind the first of the other
  stays_behind : (x y : X) (xs ys : List X) → x ≡ y → AllPairs R (x ∷ xs) → (u : X) → Contains xs u → (y ≡ u) ⊎ Contains ys u → Contains ys u
  stays_behind x y xs ys e o u c (inl f) =
      let h : R x x = subst (R x) (sym (e ∙ f)) (first_before x xs o u c) in
      absurd (no_back x x h h)
  stays_behind x y xs ys e o u c (inr k) = k

  same_ordered : (xs ys : List X) → AllPairs R xs → AllPairs R ys → ((u : X) → Contains xs u → Contains ys u) → ((u : X) → Contains ys u → Contains xs u) → xs ≡ ys
  same_ordered [] [] o q there back = refl
  same_ordered [] (y ∷ ys) o q there back = absurd (has_none y (back y (has_head y ys)))
  same_ordered (x ∷ xs) [] o q there back = absurd (has_none x (there x (has_head x xs)))
  same_ordered (x ∷ xs) (y ∷ ys) o q there back =
      let first : x ≡ y = firsts_meet x y xs ys o q (has_cases y ys x (there x (has_head x xs))) (has_cases x xs y (back y (has_head y ys))) in
      let rest : xs ≡ ys = same_ordered xs ys (rest_ordered x xs o) (rest_ordered y ys q)
      (λ u h. stays_behind x y xs ys first o u h (has_cases y ys u (there u (has_tail x xs u h))))
      (λ u h. stays_behind y x ys xs (sym first) q u h (has_cases x xs u (back u (has_tail y ys u h)))) in
      ap (λ v. v ∷ xs) first ∙ ap (λ vs. y ∷ vs) rest

  list_one : (P : X → Type 0) (xs ys : List X) → IsListOf R P xs → IsListOf R P ys → xs ≡ ys
  list_one P xs ys h k = same_ordered xs ys h.ordered k.ordered (λ u c. k.all u (h.each u c)) (λ u c. h.all u (k.each u c))

pair_not_back : (s t : Short) → IsEarlierPair s t → IsEarlierPair t s → ⊥
pair_not_back s t (by_first l) (by_first k) = omega (arith, l, k)
pair_not_back s t (by_first l) (by_second e k) = let f = ap (λ (n : NetId). n.0) e in omega (arith, l, f)
pair_not_back s t (by_second e l) (by_first k) = let f = ap (λ (n : NetId). n.0) e in omega (arith, k, f)
pair_not_back s t (by_second e l) (by_second f k) = omega (arith, l, k)

report_by_one : (b : BoardParts) (pieces : List Piece) (In : ℕ → ℕ → Type 0) (r s : Traced) → IsReportBy b pieces In r → IsReportBy b pieces In s → r ≡ s
report_by_one b pieces In r s h k =
    let groups = list_one IsEarlierGroup (λ x y l m. omega (arith, l, m)) (IsGroup In) r.groups s.groups h.groups k.groups in
    let opens = list_one IsEarlierNet (λ x y l m. omega (arith, l, m)) (IsOpen b pieces In) r.opens s.opens h.opens k.opens in
    let shorts = list_one IsEarlierPair pair_not_back (IsShort pieces In) r.shorts s.shorts h.shorts k.shorts in
    let f = λ (n : ℕ). let t : Traced = record { pieces = n; groups = r.groups; opens = r.opens; shorts = r.shorts } in t in
    let g = λ (xs : List Group). let t : Traced = record { pieces = s.pieces; groups = xs; opens = r.opens; shorts = r.shorts } in t in
    let o = λ (xs : List OpenNet). let t : Traced = record { pieces = s.pieces; groups = s.groups; opens = xs; shorts = r.shorts } in t in
    let q = λ (xs : List Short). let t : Traced = record { pieces = s.pieces; groups = s.groups; opens = s.opens; shorts = xs } in t in
    ap f (h.size ∙ sym k.size) ∙ ap g groups ∙ ap o opens ∙ ap q shorts

pub report_one : (b : BoardParts) (lists : List (List Conn)) (r s : Traced) → IsReport b lists r → IsReport b lists s → r ≡ s
report_one b lists r s h k = report_by_one b (pieces_of b lists) (IsLeastJoined (pieces_of b lists)) r s h k

pub text_one : (b : BoardParts) (lists : List (List Conn)) (xs ys : List ℕ) → IsTraceText b lists xs → IsTraceText b lists ys → xs ≡ ys
text_one b lists xs ys h k =
    h.text ∙ ap (report_text b) (report_one b lists h.traced k.traced h.report k.report) ∙ sym k.text
