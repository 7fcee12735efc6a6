-- From the parts of a certificate that are right to the verdict on it.
use Rattle.std.proofs.Common.{◌≡◌, ℕ, List, Option, Some, None, refl, ◌↔◌, sym, subst}
use Rattle.std.specs.Prelude.{IfSome, IfNone}
use Rattle.geo_rect.specs.declared.ids.Spot.{Spot}
use Rattle.board_model.specs.declared.made.Conn.{Conn}
use Rattle.board_parts.specs.declared.parts.BoardParts.{BoardParts}
use Rattle.plane_set.specs.Places.{EachAt}
use Rattle.route_law.specs.declared.certs.Cert.{Cert}
use Rattle.route_law.specs.declared.certs.Entry.{Entry}
use Rattle.route_law.specs.Ground.{Ground, IsGround}
use Rattle.route_law.specs.Right.{IsBoundOf, IsRight}
use Rattle.route_law.specs.Walks.{IsLowerBound, HasNoJoiningWalk}
use Rattle.route_law.proofs.Law.{bounds_each_walk, leaves_no_walk}
use Rattle.route_law.proofs.Numbered.{listed_numbered, numbered_listed}
use Rattle.cert_check.specs.declared.verdicts.Verdict.{Verdict}
use Rattle.cert_check.specs.declared.verdicts.Verdict.TheVariants.{Yes, No}
use Rattle.cert_check.specs.declared.verdicts.Why.{Why}
use Rattle.cert_check.specs.declared.verdicts.Why.TheVariants as why
use Rattle.cert_check.specs.Searches.{IsFirst, IsSearched}
use Rattle.cert_check.specs.Stages.{Placed, Founded, Started, Followed, ArePlaced, AreFounded, IsClosed}
use Rattle.cert_check.specs.Verdicts.{IsMatch, IsFault, IsGood, IsVerdict}
use Rattle.route_law.specs.Joins.{IsLeastConnection}

pub searched_none : {A : Type 0} (IsWanted : ℕ → A → Type 0) (items : List A) (o : Option ℕ) → o ≡ None → IsSearched IsWanted items o → EachAt IsWanted items
searched_none IsWanted items o e h = let P : Option ℕ → Type 0 = λ p. IsSearched IsWanted items p in subst P e h

pub searched_some : {A : Type 0} (IsWanted : ℕ → A → Type 0) (items : List A) (o : Option ℕ) (n : ℕ) → o ≡ Some n → IsSearched IsWanted items o → IsFirst A IsWanted items n
searched_some IsWanted items o n e h = let P : Option ℕ → Type 0 = λ p. IsSearched IsWanted items p in subst P e h

-- what holds of a list holds of the same list under another name
pub placed_in : (g : Ground) (items entries : List Entry) → items ≡ entries → EachAt (Placed g) items → ArePlaced g entries
placed_in g items entries e h = let P : List Entry → Type 0 = λ es. EachAt (Placed g) es in subst P e h

pub founded_in : (g : Ground) (sources : List Spot) (items entries : List Entry) → items ≡ entries → EachAt (Placed g) items → EachAt (Founded g sources items) items → AreFounded g sources entries
founded_in g sources items entries e h k =
    let P : List Entry → Type 0 = λ es. EachAt (Founded g sources es) es in
    record { placed = placed_in g items entries e h; founded = subst P e k }

pub unfounded_in : (g : Ground) (sources : List Spot) (items entries : List Entry) (n : ℕ) → items ≡ entries → IsFirst Entry (Founded g sources items) items n → IsFirst Entry (Founded g sources entries) entries n
unfounded_in g sources items entries n e h = let P : List Entry → Type 0 = λ es. IsFirst Entry (Founded g sources es) es n in subst P e h

-- a certificate whose entries are closed under moves, and whose bound is that of the ends, is right
pub right_if_closed : (g : Ground) (sources targets : List Spot) (cert : Cert) → IsClosed g sources targets cert → IsBoundOf targets cert.entries cert.bound → IsRight g sources targets cert
right_if_closed g sources targets cert c bound = record {
  placed = λ e h. let n = listed_numbered cert.entries e h in c.started.entries.placed n.0 e n.1;
  founded = c.started.entries.founded;
  complete = record {
    starts = λ box a h s. let n = listed_numbered sources box h in c.started.starts n.0 box n.1 a s;
    edges = λ e a h m. let n = listed_numbered cert.entries e h in (c.moves n.0 e n.1).edges a m;
    vias = λ e k a h m. let n = listed_numbered cert.entries e h in (c.moves n.0 e n.1).vias k a m;
  };
  bound = bound;
}

module _ (b : BoardParts) (g : Ground) (sources targets : List Spot) where
  least_by : (conn : Option Conn) (bound : Option ℕ) → IsMatch b g sources targets conn bound → IfSome bound (λ d. IsLowerBound g sources targets d) → IfSome conn (λ c. IsLeastConnection b g sources targets c)
  least_by None bound m some = tt
  least_by (Some conn) (Some d) m some =
      let P : ℕ → Type 0 = λ c. IsLowerBound g sources targets c in
      record { connection = m.connection; least = subst P (sym m.cost) some }
  least_by (Some conn) None m some = absurd m

  none_by : (conn : Option Conn) (bound : Option ℕ) → IsMatch b g sources targets conn bound → IfNone bound (HasNoJoiningWalk g sources targets) → IfNone conn (HasNoJoiningWalk g sources targets)
  none_by (Some conn) bound m none = tt
  none_by None None m none = none
  none_by None (Some d) m none = absurd m

  -- a connection that matches the bound of a right certificate is a cheapest one
  pub match_is_least : (conn : Option Conn) (cert : Cert) → IsGround g → IsRight g sources targets cert → IsMatch b g sources targets conn cert.bound → IfSome conn (λ c. IsLeastConnection b g sources targets c)
  match_is_least conn cert ground right m = least_by conn cert.bound m (bounds_each_walk g sources targets cert ground right)

  -- where no connection matches a right certificate there is no walk
  pub match_leaves_none : (conn : Option Conn) (cert : Cert) → IsGround g → IsRight g sources targets cert → IsMatch b g sources targets conn cert.bound → IfNone conn (HasNoJoiningWalk g sources targets)
  match_leaves_none conn cert ground right m = none_by conn cert.bound m (leaves_no_walk g sources targets cert ground right)

-- an item that is not as wanted is missing where each is as wanted
none_first : {A : Type 0} (IsWanted : ℕ → A → Type 0) (items : List A) (n : ℕ) → IsFirst A IsWanted items n → EachAt IsWanted items → ⊥
none_first IsWanted items n f each = f.unwanted (each n f.item f.numbered)

closed_if_right : (g : Ground) (sources targets : List Spot) (cert : Cert) → IsRight g sources targets cert → IsClosed g sources targets cert
closed_if_right g sources targets cert r = record {
  started = record {
    entries = record { placed = λ n e h. r.placed e (numbered_listed cert.entries n e h); founded = r.founded };
    starts = λ n box h a s. r.complete.starts box a (numbered_listed sources n box h) s;
  };
  moves = λ n e h. record {
    edges = λ a m. r.complete.edges e a (numbered_listed cert.entries n e h) m;
    vias = λ k a m. r.complete.vias e k a (numbered_listed cert.entries n e h) m;
  };
}

module _ (b : BoardParts) (g : Ground) (sources targets : List Spot) (conn : Option Conn) (cert : Cert) where
  fault_refutes : (n : ℕ) (reason : Why) → IsFault b g sources targets conn cert n reason → IsClosed g sources targets cert → IsGood b g sources targets conn cert → ⊥
  fault_refutes n why.Strip f c h = none_first (Placed g) cert.entries n f c.started.entries.placed
  fault_refutes n why.Origin f c h = none_first (Founded g sources cert.entries) cert.entries n f.1 c.started.entries.founded
  fault_refutes n why.CoverSource f c h = none_first (Started g targets cert) sources n f.1 c.started.starts
  fault_refutes n why.Cover f c h = none_first (Followed g targets cert) cert.entries n f.1 c.moves
  fault_refutes n why.Bound f c h = f.wrong h.right.bound
  fault_refutes n why.Path f c h = f.wrong h.match

  -- a verdict is yes exactly where all is right
  pub yes_if_good : (v : Verdict) → IsVerdict b g sources targets conn cert v → (v ≡ Yes) ↔ IsGood b g sources targets conn cert
  yes_if_good Yes h = (λ e. h, λ good. refl)
  yes_if_good (No n reason) h = (λ e. absurd (let i : No n reason ≡ Yes = e in cc), λ good. absurd (fault_refutes n reason h (closed_if_right g sources targets cert good.right) good))
