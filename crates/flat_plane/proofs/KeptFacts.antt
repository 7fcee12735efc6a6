-- What a flat plane keeps, and what its callers learn.
use Rattle.std.proofs.Common.{ℤ, ◌≡◌, refl, sym, subst, ap, ◌∙◌, List, [], ◌∷◌, Contains, arith}
use Rattle.std.proofs.lemmas.Int.{ints}
use Rattle.geo_rect.specs.declared.ids.Label.{Label}
use Rattle.geo_rect.specs.declared.ids.Label.TheVariants.{Free}
use Rattle.geo_rect.specs.declared.shapes.Interval.{Interval}
use Rattle.geo_rect.specs.declared.shapes.Point.{Point}
use Rattle.geo_rect.specs.declared.shapes.Rect.{Rect}
use Rattle.geo_rect.specs.Axis.{HasNumber, LiesWithin}
use Rattle.geo_rect.specs.Plane.{columns, rows, HasPoint, LiesIn}
use Rattle.plane_core.specs.declared.strips.Strip.{Strip}
use Rattle.plane_core.specs.Choice.{IsChoice, Meets}
use Rattle.plane_core.specs.Labels.{label_of, painted, IsPainted, IsSmall, IsWithinReach}
use Rattle.plane_core.specs.Strips.{AreStrips, IsHeld, IsRunInRow, IsStrip}
use Rattle.plane_core.proofs.Choices.{has_one, order_one}
use Rattle.plane_core.proofs.Labelled.{labels_painted, plane_from_strips}
use Rattle.plane_core.proofs.Local.{strip_lies_in}
use Rattle.plane_core.proofs.Members.{has_head}
use Rattle.plane_core.proofs.Runs.{within_has}
use Rattle.flat_plane.specs.Kept.{IsKept, Kept}

abbrev pub kept_of : Rect → List Strip → Kept
kept_of domain strips = record { domain = domain; strips = strips }

pub kept_now : (v : Kept) (domain : Rect) (strips : List Strip) → IsKept domain strips → kept_of domain strips ≡ v → IsKept v.domain v.strips
kept_now v domain strips is e = let P : Kept → Type 0 = λ w. IsKept w.domain w.strips in subst P e is

pub strips_now : (v : Kept) (domain : Rect) (strips list : List Strip) → kept_of domain strips ≡ v → list ≡ strips → list ≡ v.strips
strips_now v domain strips list e l = let F : Kept → List Strip = λ w. w.strips in l ∙ ap F e

pub point_inside : (area domain : Rect) (p : Point) → LiesIn area domain → HasPoint area p → HasPoint domain p
point_inside area domain p w h =
    record { across = within_has (columns area) (columns domain) p.x w.across h.across; up = within_has (rows area) (rows domain) p.y w.up h.up }

reach_within : (i j : Interval) → LiesWithin i j → IsWithinReach j → IsWithinReach i
reach_within i j w r =
    let a = w.from in let b = w.to in let c = r.from in let d = r.to in
    record { from = omega (arith, ints); to = omega (arith, ints) }

pub small_strip : (domain : Rect) (strips : List Strip) (s : Strip) → IsKept domain strips → Contains strips s → IsSmall s.area
small_strip domain strips s is h =
    let w : LiesIn s.area domain = strip_lies_in domain (label_of strips) s (is.canonical.each s h) in
    record { across = reach_within (columns s.area) (columns domain) w.across is.small.across; up = reach_within (rows s.area) (rows domain) w.up is.small.up }

whole_row : (domain : Rect) (y : ℤ) → HasNumber (rows domain) y → IsRunInRow domain (λ _. Free) (record { area = domain; label = Free }) y
whole_row domain y hy = record {
  in_domain = hy;
  run = record {
    inside = record { from = omega (arith, ints); to = omega (arith, ints) };
    same = λ x h. refl;
    ends_left = λ h. let a = h.from in absurd (omega (arith, ints));
    ends_right = λ h. let a = h.to in absurd (omega (arith, ints));
  };
}

whole_strip : (domain : Rect) → IsStrip domain (λ _. Free) (record { area = domain; label = Free })
whole_strip domain = record {
  in_each_row = λ y hy. whole_row domain y hy;
  ends_below = λ r. let a = r.in_domain.from in omega (arith, ints);
  ends_above = λ r. let a = r.in_domain.to in omega (arith, ints);
}

free_plane : (domain : Rect) → AreStrips domain (λ _. Free) (record { area = domain; label = Free } ∷ [])
free_plane domain =
    let s : Strip = record { area = domain; label = Free } in
    let P : Strip → Type 0 = λ t. IsStrip domain (λ _. Free) t in
    record {
      each = λ t h. subst P (has_one s t h) (whole_strip domain);
      covered = λ p h. record { by = s; is_listed = has_head s []; has_point = h };
      in_order = order_one s;
    }

pub new_kept : (domain : Rect) (strips : List Strip) → IsSmall domain → strips ≡ record { area = domain; label = Free } ∷ [] → IsKept domain strips
new_kept domain strips small e =
    let P : List Strip → Type 0 = λ l. IsKept domain l in
    subst P (sym e) (record { canonical = plane_from_strips domain (λ _. Free) (record { area = domain; label = Free } ∷ []) (free_plane domain); small = small })

pub painted_kept : (domain : Rect) (strips list new : List Strip) (area : Rect) (m : Label) → IsKept domain strips → list ≡ strips → AreStrips domain (painted (label_of list) area m) new → IsKept domain new
painted_kept domain strips list new area m is l are = record { canonical = plane_from_strips domain (painted (label_of list) area m) new are; small = is.small }

pub painted_now : (v : Kept) (domain : Rect) (strips list new : List Strip) (area : Rect) (m : Label) → kept_of domain strips ≡ v → list ≡ strips → LiesIn area v.domain → AreStrips domain (painted (label_of list) area m) new → IsPainted v.domain area m (label_of v.strips) (label_of new)
painted_now v domain strips list new area m e l w are =
    let F : Kept → Rect = λ k. k.domain in
    let P : List Strip → Type 0 = λ ss. AreStrips domain (painted (label_of ss) area m) new in
    let Q : Rect → Type 0 = λ d. AreStrips d (painted (label_of v.strips) area m) new in
    labels_painted v.domain area m (label_of v.strips) new (λ p h. point_inside area v.domain p w h)
    (subst Q (ap F e) (subst P (strips_now v domain strips list e l) are))

-- the strips that meet a part of the domain have all its points
pub meeting_covers : (domain : Rect) (strips found : List Strip) (area : Rect) → IsKept domain strips → LiesIn area domain → IsChoice strips (λ s. Meets s.area area) found → (p : Point) → HasPoint area p → IsHeld found p
meeting_covers domain strips found area is w c p h =
    let held : IsHeld strips p = is.canonical.covered p (point_inside area domain p w h) in
    record {
      by = held.by;
      is_listed = c.complete held.by held.is_listed (record { at = p; in_first = held.has_point; in_second = h });
      has_point = held.has_point;
    }
