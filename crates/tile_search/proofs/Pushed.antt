-- What a queue has after pushes.
use Rattle.std.proofs.Common.{◌≡◌, ℕ, ◌+◌, ◌<◌, ◌≤◌, ◌⊎◌, inl, inr, List, [], ◌∷◌, ◌++◌, All, Contains, Some, length, get_or, take, refl, sym, ◌∙◌, ap, subst, arith}
use Rattle.std.specs.Prelude.{slice_get}
use Rattle.std.proofs.lemmas.Bool.{cases_lt}
use Rattle.std.proofs.lemmas.List.{take_more, take_all}
use Rattle.std.proofs.lemmas.List.Elements.{All-contains, Contains-push, Contains-push_cases, Contains-append_left}
use Rattle.geo_rect.specs.declared.ids.Spot.{Spot}
use Rattle.plane_core.proofs.Members.{has_none}
use Rattle.route_law.specs.declared.certs.Entry.{Entry}
use Rattle.route_law.specs.declared.certs.Origin.{Origin}
use Rattle.route_law.specs.declared.certs.Origin.TheVariants.{Source}
use Rattle.route_law.specs.Ground.{Ground}
use Rattle.route_law.specs.Moves.{Arrival}
use Rattle.route_law.specs.Right.{IsStart}
use Rattle.strip_moves.specs.Listed.{HasArrival, IsStartFrom}
use Rattle.wavefront.specs.Waiting.{Pair}
use Rattle.tile_search.specs.Keys.{IsKey}
use Rattle.tile_search.specs.Waits.{Waits, IsPairOf, HasEntry, IsPushed, IsStartPair, HasStarts}

abbrev pair_of : ℕ → Entry → Pair
pair_of key e = record { key = key; entry = e }

pub pushed_none : (targets : List Spot) (pairs : List Pair) → IsPushed targets pairs pairs []
pushed_none targets pairs = record { kept = λ p h. h; each = λ p h. inl h; all = λ e h. absurd (has_none e h) }

module _ (targets : List Spot) (old mid new : List Pair) (some : List Entry) (key : ℕ) (x : Entry) (of : IsKey targets x key) (h : IsPushed targets old mid some) (is : new ≡ mid ++ pair_of key x ∷ []) where
  in_new : (p : Pair) → Contains mid p ⊎ (pair_of key x ≡ p) → Contains new p
  in_new p (inl k) = subst (λ (ps : List Pair). Contains ps p) (sym is) (Contains-append_left mid (pair_of key x ∷ []) p k)
  in_new p (inr e) = subst (λ (q : Pair). Contains new q) e (subst (λ (ps : List Pair). Contains ps (pair_of key x)) (sym is) (Contains-push mid (pair_of key x)))

  of_new : (p : Pair) → Contains new p → Contains mid p ⊎ (pair_of key x ≡ p)
  of_new p k = Contains-push_cases mid (pair_of key x) p (subst (λ (ps : List Pair). Contains ps p) is k)

  of_some : (p : Pair) → IsPairOf targets some p → IsPairOf targets (some ++ x ∷ []) p
  of_some p k = record { listed = Contains-append_left some (x ∷ []) p.entry k.listed; key = k.key }

  of_last : (p : Pair) → pair_of key x ≡ p → IsPairOf targets (some ++ x ∷ []) p
  of_last p e = subst (IsPairOf targets (some ++ x ∷ [])) e (record { listed = Contains-push some x; key = of })

  last_there : HasEntry new x
  last_there = record { key = key; listed = in_new (pair_of key x) (inr refl) }

  some_there : (e : Entry) → HasEntry mid e → HasEntry new e
  some_there e k = record { key = k.key; listed = in_new (pair_of k.key e) (inl k.listed) }

  pushed_one : IsPushed targets old new (some ++ x ∷ [])
  pushed_one = record {
    kept = λ p k. in_new p (inl (h.kept p k));
    each = λ p k. elim (of_new p k) [
      | inl m ↦ elim (h.each p m) [
        | inl o ↦ inl o
        | inr s ↦ inr (of_some p s)
      ]
      | inr e ↦ inr (of_last p e)
    ];
    all = λ e k. elim (Contains-push_cases some x e k) [
      | inl s ↦ some_there e (h.all e s)
      | inr q ↦ subst (HasEntry new) q last_there
    ];
  }

-- one more entry
pub pushed_more : (targets : List Spot) (old mid new : List Pair) (entries : List Entry) (i key : ℕ) (x : Entry) → i < length entries → get_or entries i x ≡ x → IsKey targets x key → IsPushed targets old mid (take i entries) → new ≡ mid ++ pair_of key x ∷ [] → IsPushed targets old new (take (i + 1) entries)
pushed_more targets old mid new entries i key x l e of h is =
    let more : take (i + 1) entries ≡ take i entries ++ x ∷ [] = take_more entries i x l ∙ ap (λ (y : Entry). take i entries ++ y ∷ []) e in
    subst (λ (es : List Entry). IsPushed targets old new es) (sym more) (pushed_one targets old mid new (take i entries) key x of h is)

pub pushed_whole : (targets : List Spot) (old new : List Pair) (entries : List Entry) (i : ℕ) → length entries ≤ i → IsPushed targets old new (take i entries) → IsPushed targets old new entries
pushed_whole targets old new entries i l h = subst (λ (es : List Entry). IsPushed targets old new es) (take_all i entries l) h

pub waits_kept : (old new : List Pair) (a : Arrival) → ((p : Pair) → Contains old p → Contains new p) → Waits old a → Waits new a
waits_kept old new a f w = record { pair = w.pair; listed = f w.pair w.listed; same = w.same }

-- the arrivals among pushed entries wait
pub waits_pushed : (targets : List Spot) (old new : List Pair) (entries : List Entry) (o : Origin) (a : Arrival) → IsPushed targets old new entries → HasArrival entries o a → Waits new a
waits_pushed targets old new entries o a h w = let there = h.all w.entry w.listed in record { pair = pair_of there.key w.entry; listed = there.listed; same = w.same }

module _ (g : Ground) (sources targets : List Spot) where
  pub starts_none : HasStarts g sources targets 0 []
  starts_none = record { each = λ p h. absurd (has_none p h); all = λ m box a l n s. absurd (omega arith) }

  module _ (n : ℕ) (box : Spot) (old new : List Pair) (entries : List Entry) (numbered : slice_get sources n ≡ Some box) (pushed : IsPushed targets old new entries)
      (each : All (IsStartFrom g box n) entries) (all : (a : Arrival) → IsStart g box a → HasArrival entries (Source n) a) where
    start_kept : (p : Pair) → IsStartPair g sources targets n p → IsStartPair g sources targets (n + 1) p
    start_kept p h = record { key = h.key; number = h.number; before = omega (arith, h.before); box = h.box; numbered = h.numbered; start = h.start }

    start_added : (p : Pair) → IsPairOf targets entries p → IsStartPair g sources targets (n + 1) p
    start_added p h = record {
      key = h.key;
      number = n;
      before = omega arith;
      box = box;
      numbered = numbered;
      start = All-contains (IsStartFrom g box n) entries p.entry each h.listed;
    }

    same_box : (m : ℕ) (b : Spot) → m ≡ n → slice_get sources m ≡ Some b → b ≡ box
    same_box m b e h =
        let k : Some b ≡ Some box = sym (subst (λ (i : ℕ). slice_get sources i ≡ Some b) e h) ∙ numbered in
        cc

    last_waits : (m : ℕ) (b : Spot) (a : Arrival) → m ≡ n → slice_get sources m ≡ Some b → IsStart g b a → Waits new a
    last_waits m b a e h s = waits_pushed targets old new entries (Source n) a pushed (all a (subst (λ (x : Spot). IsStart g x a) (same_box m b e h) s))

    pub starts_more : HasStarts g sources targets n old → HasStarts g sources targets (n + 1) new
    starts_more h = record {
      each = λ p k. elim (pushed.each p k) [
        | inl o ↦ start_kept p (h.each p o)
        | inr e ↦ start_added p e
      ];
      all = λ m b a l i s. elim (cases_lt m n) [
        | inl k ↦ waits_kept old new a pushed.kept (h.all m b a k i s)
        | inr k ↦ last_waits m b a (omega (arith, l, k)) i s
      ];
    }
