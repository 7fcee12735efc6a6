-- What each label says, that the labels of a list depend on its members alone, and how they grow.
use Rattle.std.proofs.Common.{◌≡◌, ◌≢◌, ◌++◌, ℕ, List, [], ◌∷◌, Option, Some, None, true, false, eqb, fold, inl, inr, ◌↔◌, refl, sym, ◌∙◌, ap, subst, append_assoc, append-nil, arith}
use Rattle.std.specs.Prelude.{Contains, ◌==◌, Bool, filter}
use Rattle.std.proofs.lemmas.Bool.{both_ways, cond_both, cond-true, cond-false, eqb-true, eqb-false, false_from_ne_true}
use Rattle.std.proofs.lemmas.List.Elements.{Contains-append_left, Contains-append_right, Contains-push, Contains-push_cases}
use Rattle.std.proofs.lemmas.List.Sums.{fold_push}
use Rattle.std.proofs.lemmas.Option.{same_Some, none-some}
use Rattle.geo_rect.specs.declared.ids.Label.{Label}
use Rattle.geo_rect.specs.declared.ids.Label.TheVariants.{Free, One, Many}
use Rattle.geo_rect.specs.declared.ids.NetId.{NetId}
use Rattle.geo_rect.specs.declared.shapes.Point.{Point}
use Rattle.board_parts.specs.declared.parts.BoardParts.{BoardParts}
use Rattle.board_model.specs.declared.shapes.Shape.{Shape}
use Rattle.board_model.specs.Labels.{PlaneRule, Hits, IsAllowed, is_allowed, does_hit, joined, with_shape, bare_label, label_among, IsHitBy, IsFree, IsLeftTo, IsTakenBy, IsBarred, Admits}
use Rattle.board_model.proofs.LabelTests.{Decides-does_hit, Decides-is_allowed}

-- what a label says of the shapes
abbrev Says : BoardParts → PlaneRule → List Shape → Point → Label → Type 0
Says b r shapes p Free = IsFree b r shapes p
Says b r shapes p (One n) = IsTakenBy b r shapes p n
Says b r shapes p Many = IsBarred b r shapes p

module _ (b : BoardParts) (r : PlaneRule) (p : Point) where
  -- every shape of xs that hits p is one of ys
  abbrev Within : List Shape → List Shape → Type 0
  Within xs ys = (s : Shape) → Hits r p s → Contains xs s → Contains ys s

  hit_within : (xs ys : List Shape) (o : Option NetId) → Within xs ys → IsHitBy r xs p o → IsHitBy r ys p o
  hit_within xs ys o w h = record { shape = h.shape; member = w h.shape h.hits h.member; owned = h.owned; hits = h.hits }

  left_within : (xs ys : List Shape) (n : NetId) → Within ys xs → IsLeftTo b r xs p n → IsLeftTo b r ys p n
  left_within xs ys n w h = record { allowed = h.allowed; own = λ s m k. h.own s (w s k m) k }

  barred_within : (xs ys : List Shape) → Within xs ys → IsBarred b r xs p → IsBarred b r ys p
  barred_within xs ys w h =
      elim h [
        | inl out ↦ inl out
        | inr k ↦ inr (elim k [
          | inl blocked ↦ inl (hit_within xs ys None w blocked)
          | inr two ↦ inr (record {
            first = two.first;
            second = two.second;
            apart = two.apart;
            by_first = hit_within xs ys (Some two.first) w two.by_first;
            by_second = hit_within xs ys (Some two.second) w two.by_second;
          })
        ])
      ]

  -- lists with the same hits say the same
  says_within : (a : Label) (xs ys : List Shape) → Within xs ys → Within ys xs → Says b r xs p a → Says b r ys p a
  says_within Free xs ys w v h = record { allowed = h.allowed; clear = λ s m k. h.clear s (v s k m) k }
  says_within (One n) xs ys w v h = record { left = left_within xs ys n v h.left; hit = hit_within xs ys (Some n) w h.hit }
  says_within Many xs ys w v h = barred_within xs ys w h

  -- no label but one says what is so
  free_not_hit : (shapes : List Shape) (o : Option NetId) → IsFree b r shapes p → IsHitBy r shapes p o → ⊥
  free_not_hit shapes o f h = f.clear h.shape h.member h.hits

  free_not_barred : (shapes : List Shape) → IsFree b r shapes p → IsBarred b r shapes p → ⊥
  free_not_barred shapes f h =
      elim h [
        | inl out ↦ out f.allowed
        | inr k ↦ elim k [ inl blocked ↦ free_not_hit shapes None f blocked | inr two ↦ free_not_hit shapes (Some two.first) f two.by_first ]
      ]

  left_owner : (shapes : List Shape) (n : NetId) (o : Option NetId) → IsLeftTo b r shapes p n → IsHitBy r shapes p o → o ≡ Some n
  left_owner shapes n o l h = sym h.owned ∙ l.own h.shape h.member h.hits

  left_not_barred : (shapes : List Shape) (n : NetId) → IsLeftTo b r shapes p n → IsBarred b r shapes p → ⊥
  left_not_barred shapes n l h =
      elim h [
        | inl out ↦ out l.allowed
        | inr k ↦ elim k [
          | inl blocked ↦ none-some n (left_owner shapes n None l blocked)
          | inr two ↦ two.apart (same_Some _ _ (left_owner shapes n (Some two.first) l two.by_first ∙ sym (left_owner shapes n (Some two.second) l two.by_second)))
        ]
      ]

  says_one : (shapes : List Shape) (a c : Label) → Says b r shapes p a → Says b r shapes p c → a ≡ c
  says_one shapes Free Free h k = refl
  says_one shapes Free (One n) h k = absurd (free_not_hit shapes (Some n) h k.hit)
  says_one shapes Free Many h k = absurd (free_not_barred shapes h k)
  says_one shapes (One m) Free h k = absurd (free_not_hit shapes (Some m) k h.hit)
  says_one shapes (One m) (One n) h k = ap One (same_Some _ _ (left_owner shapes n (Some m) k.left h.hit))
  says_one shapes (One m) Many h k = absurd (left_not_barred shapes m h.left k)
  says_one shapes Many Free h k = absurd (free_not_barred shapes k h)
  says_one shapes Many (One n) h k = absurd (left_not_barred shapes n k.left h)
  says_one shapes Many Many h k = refl

  -- with no shape
  none_in_nil : (s : Shape) → Contains [] s → ⊥
  none_in_nil s c = omega (arith, c.1)

  says_bare : Says b r [] p (bare_label b r p)
  says_bare =
      cond_both (is_allowed b r p) Free Many (λ (a : Label). Says b r [] p a)
      (λ e. record { allowed = (Decides-is_allowed b r p).0 e; clear = λ s c h. none_in_nil s c })
      (λ e. inl (λ f. both_ways _ e ((Decides-is_allowed b r p).1 f)))

  -- with one more shape that hits
  module _ (shapes : List Shape) (s : Shape) (h : Hits r p s) where
    more : Within shapes (shapes ++ s ∷ [])
    more x k c = Contains-append_left shapes (s ∷ []) x c

    hit_now : (o : Option NetId) → s.owner ≡ o → IsHitBy r (shapes ++ s ∷ []) p o
    hit_now o e = record { shape = s; member = Contains-push shapes s; owned = e; hits = h }

    left_now : (n : NetId) → IsAllowed b r p → ((x : Shape) → Contains shapes x → Hits r p x → x.owner ≡ Some n) → s.owner ≡ Some n → IsLeftTo b r (shapes ++ s ∷ []) p n
    left_now n f own e = record {
      allowed = f;
      own = λ x c k. elim (Contains-push_cases shapes s x c) [
        | inl before ↦ own x before k
        | inr same ↦ subst (λ (y : Shape). y.owner ≡ Some n) same e
      ];
    }

    same_net : (m n : NetId) → eqb m.0 n.0 ≡ true → m ≡ n
    same_net m n e = let q : ℕ → NetId = λ k. record { 0 = k } in ap q (eqb-true m.0 n.0 e)

    other_net : (m n : NetId) → eqb m.0 n.0 ≡ false → m ≢ n
    other_net m n e q = eqb-false m.0 n.0 e (ap (λ (k : NetId). k.0) q)

    says_joined : (a : Label) (o : Option NetId) → s.owner ≡ o → Says b r shapes p a → Says b r (shapes ++ s ∷ []) p (joined a o)
    says_joined Free None e k = inr (inl (hit_now None e))
    says_joined Free (Some n) e k = record { left = left_now n k.allowed (λ x c t. absurd (k.clear x c t)) e; hit = hit_now (Some n) e }
    says_joined (One m) None e k = inr (inl (hit_now None e))
    says_joined (One m) (Some n) e k =
        cond_both (m.0 == n.0) (One m) Many (λ (a : Label). Says b r (shapes ++ s ∷ []) p a)
        (λ t. record {
          left = left_now m k.left.allowed k.left.own (e ∙ ap Some (sym (same_net m n t)));
          hit = hit_within shapes (shapes ++ s ∷ []) (Some m) more k.hit;
        })
        (λ t. inr (inr (record {
          first = m;
          second = n;
          apart = other_net m n t;
          by_first = hit_within shapes (shapes ++ s ∷ []) (Some m) more k.hit;
          by_second = hit_now (Some n) e;
        })))
    says_joined Many o e k = barred_within shapes (shapes ++ s ∷ []) more k

  -- with one more shape that misses
  says_missed : (shapes : List Shape) (s : Shape) (a : Label) → ¬ Hits r p s → Says b r shapes p a → Says b r (shapes ++ s ∷ []) p a
  says_missed shapes s a miss h =
      says_within a shapes (shapes ++ s ∷ [])
      (λ x k c. Contains-append_left shapes (s ∷ []) x c)
      (λ x k c. elim (Contains-push_cases shapes s x c) [
        | inl before ↦ before
        | inr same ↦ absurd (miss (subst (λ (y : Shape). Hits r p y) (sym same) k))
      ])
      h

  says_more : (shapes : List Shape) (s : Shape) (a : Label) → Says b r shapes p a → Says b r (shapes ++ s ∷ []) p (with_shape r p a s)
  says_more shapes s a h =
      cond_both (does_hit r p s) (joined a s.owner) a (λ (c : Label). Says b r (shapes ++ s ∷ []) p c)
      (λ e. says_joined shapes s ((Decides-does_hit r p s).0 e) a s.owner refl h)
      (λ e. says_missed shapes s a (λ k. both_ways _ e ((Decides-does_hit r p s).1 k)) h)

  says_all : (rest done : List Shape) (a : Label) → Says b r done p a → Says b r (done ++ rest) p (fold (with_shape r p) a rest)
  says_all [] done a h =
      says_within a done (done ++ []) (λ x k c. Contains-append_left done [] x c)
      (λ x k c. subst (λ (l : List Shape). Contains l x) (append-nil done) c) h
  says_all (s ∷ rest) done a h =
      let before : Says b r ((done ++ s ∷ []) ++ rest) p (fold (with_shape r p) (with_shape r p a s) rest) = says_all rest (done ++ s ∷ []) (with_shape r p a s) (says_more done s a h) in
      subst (λ (l : List Shape). Says b r l p (fold (with_shape r p) (with_shape r p a s) rest)) (append_assoc done (s ∷ []) rest) before

  says_label : (shapes : List Shape) → Says b r shapes p (label_among b r shapes p)
  unfolding label_among
  says_label shapes = says_all shapes [] (bare_label b r p) says_bare

  with_missed : (s : Shape) (a : Label) → ¬ Hits r p s → with_shape r p a s ≡ a
  with_missed s a miss = cond-false (does_hit r p s) _ _ (false_from_ne_true _ (λ e. miss ((Decides-does_hit r p s).0 e)))

  -- the laws
  pub says_what : (shapes : List Shape) (a : Label) → (label_among b r shapes p ≡ a) ↔ Says b r shapes p a
  says_what shapes a = (
    λ e. subst (λ (c : Label). Says b r shapes p c) e (says_label shapes),
    λ h. says_one shapes (label_among b r shapes p) a (says_label shapes) h,
  )

  pub same_hits : (xs ys : List Shape) → ((s : Shape) → Hits r p s → Contains xs s ↔ Contains ys s) → label_among b r xs p ≡ label_among b r ys p
  same_hits xs ys w =
      says_one ys (label_among b r xs p) (label_among b r ys p)
      (says_within (label_among b r xs p) xs ys (λ s h c. (w s h).0 c) (λ s h c. (w s h).1 c) (says_label xs))
      (says_label ys)

  pub label_among-nil_allowed : IsAllowed b r p → label_among b r [] p ≡ Free
  label_among-nil_allowed f = (says_what [] Free).1 (record { allowed = f; clear = λ s c h. none_in_nil s c })

  pub label_among-nil_shut : ¬ IsAllowed b r p → label_among b r [] p ≡ Many
  label_among-nil_shut out = (says_what [] Many).1 (inl out)

  pub label_among-push : (shapes : List Shape) (s : Shape) → label_among b r (shapes ++ s ∷ []) p ≡ with_shape r p (label_among b r shapes p) s
  unfolding label_among
  label_among-push shapes s = fold_push (with_shape r p) (bare_label b r p) shapes s

  pub label_among-push_hit : (shapes : List Shape) (s : Shape) → Hits r p s → label_among b r (shapes ++ s ∷ []) p ≡ joined (label_among b r shapes p) s.owner
  label_among-push_hit shapes s h = label_among-push shapes s ∙ cond-true (does_hit r p s) _ _ ((Decides-does_hit r p s).1 h)

  pub label_among-push_missed : (shapes : List Shape) (s : Shape) → ¬ Hits r p s → label_among b r (shapes ++ s ∷ []) p ≡ label_among b r shapes p
  label_among-push_missed shapes s miss =
      label_among-push shapes s ∙ with_missed s (label_among b r shapes p) miss

  -- shapes that miss p may leave the list
  fold_kept : (keep : Shape → Bool) (shapes : List Shape) (a : Label) → ((s : Shape) → Contains shapes s → keep s ≡ false → ¬ Hits r p s) → fold (with_shape r p) a (filter keep shapes) ≡ fold (with_shape r p) a shapes
  fold_kept keep [] a miss = refl
  fold_kept keep (s ∷ rest) a miss =
      let later : (x : Shape) → Contains rest x → keep x ≡ false → ¬ Hits r p x = λ x c e. miss x (Contains-append_right (s ∷ []) rest x c) e in
      cond_both (keep s) (s ∷ filter keep rest) (filter keep rest) (λ (l : List Shape). fold (with_shape r p) a l ≡ fold (with_shape r p) (with_shape r p a s) rest)
      (λ e. fold_kept keep rest (with_shape r p a s) later)
      (λ e. fold_kept keep rest a later ∙ ap (λ (z : Label). fold (with_shape r p) z rest) (sym (with_missed s a (miss s (0, omega arith, refl) e))))

  pub label_among-filter : (keep : Shape → Bool) (shapes : List Shape) → ((s : Shape) → Contains shapes s → keep s ≡ false → ¬ Hits r p s) → label_among b r (filter keep shapes) p ≡ label_among b r shapes p
  unfolding label_among
  label_among-filter keep shapes miss = fold_kept keep shapes (bare_label b r p) miss

  left_from : (shapes : List Shape) (n : NetId) (a : Label) → Says b r shapes p a → Admits a n → IsLeftTo b r shapes p n
  left_from shapes n Free h t = record { allowed = h.allowed; own = λ s c k. absurd (h.clear s c k) }
  left_from shapes n (One m) h t = subst (λ (k : NetId). IsLeftTo b r shapes p k) t h.left
  left_from shapes n Many h t = absurd t

  admits_from : (shapes : List Shape) (n : NetId) (a : Label) → Says b r shapes p a → IsLeftTo b r shapes p n → Admits a n
  admits_from shapes n Free h l = tt
  admits_from shapes n (One m) h l = same_Some _ _ (left_owner shapes n (Some m) l h.hit)
  admits_from shapes n Many h l = left_not_barred shapes n l h

  pub admits_is_left : (shapes : List Shape) (n : NetId) → Admits (label_among b r shapes p) n ↔ IsLeftTo b r shapes p n
  admits_is_left shapes n = (
    λ t. left_from shapes n (label_among b r shapes p) (says_label shapes) t,
    λ l. admits_from shapes n (label_among b r shapes p) (says_label shapes) l,
  )
