-- The pieces of a stitched tiling are the strips of a plane.
use Rattle.std.proofs.Common.{◌≡◌, sym, subst, ap, ◌∙◌, List, Contains, Some}
use Rattle.geo_rect.specs.declared.ids.Label.{Label}
use Rattle.geo_rect.specs.declared.shapes.Point.{Point}
use Rattle.geo_rect.specs.declared.shapes.Rect.{Rect}
use Rattle.geo_rect.specs.Plane.{columns, rows, HasPoint, LiesIn}
use Rattle.plane_core.specs.declared.strips.Strip.{Strip}
use Rattle.plane_core.specs.Choice.{IsChoice, Meets}
use Rattle.plane_core.specs.Labels.{label_of, IsPainted, IsPlane}
use Rattle.plane_core.specs.LocalForm.{HasLocalForm}
use Rattle.plane_core.specs.Strips.{IsHeld}
use Rattle.plane_core.proofs.Labelled.{label_of_held}
use Rattle.plane_core.proofs.Local.{strips_from_local}
use Rattle.plane_core.proofs.Runs.{within_has}
use Rattle.tile_store.specs.declared.tiles.TileId.{TileId}
use Rattle.tile_store.specs.Store.{Store}
use Rattle.stitch_walk.specs.Links.{IsTiling, Tiles}
use Rattle.stitch_walk.specs.Pieces.{piece_at, FillDomain, HasLabel, IsOfPiece}
use Rattle.stitch_walk.proofs.Filled.{filled}
use Rattle.strip_merge.specs.Stitched.{IsStitched}
use Rattle.strip_merge.specs.StripsOf.{strips_of}
use Rattle.strip_merge.proofs.Listing.{listed, numbered, strips_in_order, IsNumbered}

-- what a plane keeps, in terms of the value that contracts see
pub stitched_now : (inside now : Tiles) → IsStitched inside.store inside.domain → inside ≡ now → IsStitched now.store now.domain
stitched_now inside now is e = let P : Tiles → Type 0 = λ t. IsStitched t.store t.domain in subst P e is

pub inside_point : (area domain : Rect) (at : Point) → LiesIn area domain → HasPoint area at → HasPoint domain at
inside_point area domain at w h =
    record { across = within_has (columns area) (columns domain) at.x w.across h.across; up = within_has (rows area) (rows domain) at.y w.up h.up }

-- each point of the area has the label, and each other point keeps its own
pub record IsRepainted (area : Rect) (label : Label) (old new : Store) : Type 0 where
  pub within : (p : Point) → HasPoint area p → HasLabel new p label
  pub elsewhere : (p : Point) (was : Label) → (HasPoint area p → ⊥) → HasLabel old p was → HasLabel new p was

-- strips that have a point in common are one
one_strip : (s : Store) (domain : Rect) (p q : Strip) (at : Point) → FillDomain s domain → Contains (strips_of s) p → Contains (strips_of s) q → HasPoint p.area at → HasPoint q.area at → p ≡ q
one_strip s domain p q at fill hp hq ap' aq =
    let m : IsNumbered s p = numbered s p hp in
    let n : IsNumbered s q = numbered s q hq in
    let same : m.by ≡ n.by = fill.apart m.by n.by p q at m.is_piece n.is_piece ap' aq in
    let P : TileId → Type 0 = λ id. piece_at s id ≡ Some q in
    let there : piece_at s m.by ≡ Some q = subst P (sym same) n.is_piece in
    let here : piece_at s m.by ≡ Some p = m.is_piece in
    cc

held : (s : Store) (domain : Rect) (at : Point) → FillDomain s domain → HasPoint domain at → IsHeld (strips_of s) at
held s domain at fill h =
    let o : IsOfPiece s at = fill.covered at h in
    record { by = o.piece; is_listed = listed s o.by o.piece o.is_piece; has_point = o.has_point }

-- the strips give a point the label of its strip
strip_label : (s : Store) (domain : Rect) (p : Strip) (at : Point) → FillDomain s domain → Contains (strips_of s) p → HasPoint p.area at → label_of (strips_of s) at ≡ p.label
strip_label s domain p at fill h has =
    let F : Strip → Label = λ q. q.label in
    label_of_held (λ _. p.label) (strips_of s) at
    (λ q k hq. ap F (one_strip s domain p q at fill h k has hq))
    (record { by = p; is_listed = h; has_point = has })

stitched_form : (s : Store) (domain : Rect) → IsStitched s domain → HasLocalForm domain (label_of (strips_of s)) (strips_of s)
stitched_form s domain is =
    let fill : FillDomain s domain = filled s domain is.tiling in
    record {
      inside = λ p h. let n = numbered s p h in fill.inside n.by p n.is_piece;
      labelled = λ p h at has. strip_label s domain p at fill h has;
      covered = λ at h. held s domain at fill h;
      apart = λ p q hp hq at ap' aq. one_strip s domain p q at fill hp hq ap' aq;
      no_side_defect = λ p q hp hq. let m = numbered s p hp in let n = numbered s q hq in is.maximal.no_side_defect m.by n.by p q m.is_piece n.is_piece;
      no_stack_defect = λ p q hp hq. let m = numbered s p hp in let n = numbered s q hq in is.maximal.no_stack_defect m.by n.by p q m.is_piece n.is_piece;
      in_order = strips_in_order s domain fill;
    }

-- the strips of a stitched tiling are those of the labels that they give
pub stitched_plane : (s : Store) (domain : Rect) → IsStitched s domain → IsPlane domain (strips_of s)
stitched_plane s domain is = strips_from_local domain (label_of (strips_of s)) (strips_of s) (stitched_form s domain is)

-- a strip gives its points its label
pub label_now : (inside now : Tiles) (p : Strip) (at : Point) → IsStitched inside.store inside.domain → inside ≡ now → Contains (strips_of inside.store) p → HasPoint p.area at → label_of (strips_of now.store) at ≡ p.label
label_now inside now p at is e h has =
    let P : Tiles → Type 0 = λ t. label_of (strips_of t.store) at ≡ p.label in
    subst P e (strip_label inside.store inside.domain p at (filled inside.store inside.domain is.tiling) h has)

label_is : (s : Store) (domain : Rect) (at : Point) (label : Label) → FillDomain s domain → HasLabel s at label → label_of (strips_of s) at ≡ label
label_is s domain at label fill h = strip_label s domain h.piece at fill (listed s h.by h.piece h.is_piece) h.has_point ∙ h.has_label

has_label : (s : Store) (domain : Rect) (at : Point) → FillDomain s domain → HasPoint domain at → HasLabel s at (label_of (strips_of s) at)
has_label s domain at fill h =
    let o : IsOfPiece s at = fill.covered at h in
    record {
      by = o.by;
      piece = o.piece;
      is_piece = o.is_piece;
      has_point = o.has_point;
      has_label = sym (strip_label s domain o.piece at fill (listed s o.by o.piece o.is_piece) o.has_point);
    }

painted_labels : (domain area : Rect) (label : Label) (old new : Store) → FillDomain old domain → FillDomain new domain → IsRepainted area label old new → IsPainted domain area label (label_of (strips_of old)) (label_of (strips_of new))
painted_labels domain area label old new before after painted = record {
  within = λ p h. label_is new domain p label after (painted.within p h);
  elsewhere = λ p h n. label_is new domain p (label_of (strips_of old) p) after (painted.elsewhere p (label_of (strips_of old) p) n (has_label old domain p before h));
}

-- the labels of a tiling that was painted
pub painted_now : (inside now new : Tiles) (area : Rect) (label : Label) → IsStitched inside.store inside.domain → inside ≡ now → IsTiling new.store new.domain → new.domain ≡ inside.domain → IsRepainted area label inside.store new.store → IsPainted now.domain area label (label_of (strips_of now.store)) (label_of (strips_of new.store))
painted_now inside now new area label is e tiling same painted =
    let P : Tiles → Type 0 = λ t. IsPainted t.domain area label (label_of (strips_of t.store)) (label_of (strips_of new.store)) in
    let Q : Rect → Type 0 = λ d. FillDomain new.store d in
    subst P e (painted_labels inside.domain area label inside.store new.store (filled inside.store inside.domain is.tiling) (subst Q same (filled new.store new.domain tiling)) painted)

-- the strips that meet a part of the domain have all its points
pub meeting_covers : (s : Store) (domain area : Rect) (found : List Strip) → IsStitched s domain → LiesIn area domain → IsChoice (strips_of s) (λ p. Meets p.area area) found → (at : Point) → HasPoint area at → IsHeld found at
meeting_covers s domain area found is inside choice at h =
    let by : IsHeld (strips_of s) at = held s domain at (filled s domain is.tiling) (inside_point area domain at inside h) in
    record {
      by = by.by;
      is_listed = choice.complete by.by by.is_listed (record { at = at; in_first = by.has_point; in_second = h });
      has_point = by.has_point;
    }
