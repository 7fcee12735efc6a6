-- What an iteration over a slab gives first is one of its values, under its key.
use Rattle.std.proofs.Common.{◌≡◌, ℕ, List, ◌∷◌, Some, IsSome, Contains, refl, sym, subst, ◌∙◌, arith}
use Rattle.std.specs.declared.option.Option.{Option}
use Rattle.slab.specs.Slab.{Slab, get, entries}
use Rattle.slab.proofs.SlabLemmas.{Contains-entries}
use Rattle.tile_store.specs.declared.tiles.Tile.{Tile}
use Rattle.tile_store.specs.Store.{Store, IsPresent}

pub first_is_present : (now : Store) (tiles : Slab Tile) (spare key : ℕ) (tile : Tile) (listed rest : List (ℕ × Tile)) → record { slots = tiles.slots; spare = spare } ≡ now → listed ≡ entries tiles → listed ≡ (key, tile) ∷ rest → IsPresent now (record { 0 = key })
first_is_present now tiles spare key tile listed rest view given first =
    let R : List (ℕ × Tile) → Type 0 = λ l. Contains l (key, tile) in
    let head : Contains ((key, tile) ∷ rest) (key, tile) = (0, omega arith, refl) in
    let found : get tiles key ≡ Some tile = (Contains-entries tiles key tile).0 (subst R (sym first ∙ given) head) in
    let P : Option Tile → Type 0 = λ o. IsSome o in
    let here : IsSome (get tiles key) = subst P (sym found) refl in
    let Q : Store → Type 0 = λ s. IsPresent s (record { 0 = key }) in
    subst Q view here
