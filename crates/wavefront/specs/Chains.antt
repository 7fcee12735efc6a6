-- How the entries of one corner are found, from the latest to the first.
use Rattle.std.specs.Prelude.{ℕ, ℤ, ◌≡◌, ◌+◌, ◌<◌, Bool, true, false, List, length, slice_index_or, Option, Some, None}
use Rattle.std.specs.List.{AllWithin, HoldsAt}
use Rattle.std.specs.declared.cmp.Ordering.{Ordering}
use Rattle.std.specs.Ordering.{nat_cmp, int_cmp, ordering_then, eq_by_cmp}
use Rattle.std.specs.BTreeMap.{BTreeMap, get}
use Rattle.geo_rect.specs.declared.ids.LayerId.{LayerId}
use Rattle.geo_rect.specs.declared.shapes.Rect.{Rect}
use Rattle.route_law.specs.declared.certs.Entry.{Entry}

-- a layer, and the lower left point of a strip on it
abbrev pub Corner : Type 0
Corner = ℕ × ℤ × ℤ

-- the order of the map
abbrev pub by_corner : Corner → Corner → Ordering
by_corner a b = ordering_then (ordering_then (nat_cmp a.0 b.0) (int_cmp a.1 b.1)) (int_cmp a.2 b.2)

-- the corner of a strip
abbrev pub corner : LayerId → Rect → Corner
corner l r = (l.0, r.x0, r.y0)

-- whether the entry's strip has this corner
abbrev pub is_at_corner : Corner → Entry → Bool
is_at_corner q e = eq_by_cmp by_corner q (corner e.layer e.strip)

-- the entry numbered i is the last at the corner among the first n
pub record IsLatestAt (q : Corner) (xs : List Entry) (n i : ℕ) : Type 0 where
  pub below : i < n
  pub at_corner : HoldsAt (λ e. is_at_corner q e ≡ true) xs i
  pub none_after : AllWithin (λ e. is_at_corner q e ≡ false) xs (i + 1) n

-- the last entry at the corner among the first n, if there is one
abbrev pub IsLatest : Corner → List Entry → ℕ → Option ℕ → Type 0
IsLatest q xs n None = AllWithin (λ e. is_at_corner q e ≡ false) xs 0 n
IsLatest q xs n (Some i) = IsLatestAt q xs n i

-- each entry is tied to the one before it at its corner, and the map has the last at each corner
pub record AreChained (xs : List Entry) (earlier : List (Option ℕ)) (latest : BTreeMap Corner ℕ) : Type 0 where
  pub as_many : length earlier ≡ length xs
  pub each : (k : ℕ) (d : Entry) → k < length xs → IsLatest (corner (slice_index_or xs k d).layer (slice_index_or xs k d).strip) xs k (slice_index_or earlier k None)
  pub last : (q : Corner) → IsLatest q xs (length xs) (get by_corner latest q)
