-- What is told of nets that were given back what they had, one after another.
use Rattle.std.proofs.Common.{ℕ, ◌≡◌, ◌+◌, ◌<◌, List, [], ◌∷◌, ◌++◌, length, get_or, take, refl, sym, ◌∙◌, ap, subst}
use Rattle.std.proofs.lemmas.List.{take_more}
use Rattle.geo_rect.specs.declared.ids.NetId.{NetId}
use Rattle.board_parts.specs.declared.parts.BoardParts.{BoardParts}
use Rattle.board_model.specs.declared.made.Conn.{Conn}
use Rattle.session_core.specs.declared.adopts.Adopted.{Adopted}
use Rattle.session_core.specs.declared.adopts.Adopted.TheVariants as adopted
use Rattle.session_core.specs.Adopting.{AreAdopted}
use Rattle.yield_route.specs.declared.asides.Aside.{Aside}
use Rattle.yield_route.specs.declared.told.Back.{Back}
use Rattle.yield_route.specs.Outcomes.{back_of}
use Rattle.yield_route.specs.Yielding.{IsBack, AreBack}
use Rattle.yield_route.proofs.Refused.{refused_no_walk}

abbrev State : Type 0
State = List (List Conn)

module _ (b : BoardParts) (old : State) (n : NetId) (conns : List Conn) where
  pub adopted_back : (done : Adopted) (new : State) → AreAdopted b old n conns done new → IsBack b old n conns (back_of n (length conns) done) new
  adopted_back adopted.Kept new h = (refl, refl, h)
  adopted_back (adopted.Refused i k) new h =
      let first = h.0.1 in (
        refl,
        record {
          before = i;
          number = refl;
          conn = first.conn;
          listed = first.numbered;
          mid = h.0.0;
          walks = first.before;
          no_walk = refused_no_walk b h.0.0 n first.conn k first.refused;
        },
        h.1,
      )

-- one net more was given back what it had
back-next : (b : BoardParts) (old mid new : State) (asides : List Aside) (a : Aside) (ks : List Back) (k : Back) → AreBack b old asides ks mid → IsBack b mid a.net a.conns k new → AreBack b old (asides ++ a ∷ []) (ks ++ k ∷ []) new
back-next b old mid new [] a [] k h i =
    let P : State → Type 0 = λ s. IsBack b s a.net a.conns k new in
    (new, subst P h i, refl)
back-next b old mid new [] a (x ∷ ks) k h i = absurd h
back-next b old mid new (y ∷ asides) a [] k h i = absurd h
back-next b old mid new (y ∷ asides) a (x ∷ ks) k h i = (h.0, h.1, back-next b h.0 mid new asides a ks k h.2 i)

pub back_more : (b : BoardParts) (old mid new : State) (asides : List Aside) (i : ℕ) (a : Aside) (ks : List Back) (k : Back) → i < length asides → a ≡ get_or asides i a → AreBack b old (take i asides) ks mid → IsBack b mid a.net a.conns k new → AreBack b old (take (i + 1) asides) (ks ++ k ∷ []) new
back_more b old mid new asides i a ks k l e h j =
    let P : List Aside → Type 0 = λ xs. AreBack b old xs (ks ++ k ∷ []) new in
    let F : Aside → List Aside = λ x. take i asides ++ x ∷ [] in
    subst P (sym (take_more asides i a l ∙ ap F (sym e))) (back-next b old mid new (take i asides) a ks k h j)
