-- What a zone has of strips, strip by strip.
use Rattle.std.proofs.Common.{◌≡◌, ℕ, ◌+◌, ◌<◌, ◌≤◌, List, [], ◌∷◌, ◌++◌, length, take, get_or, subst}
use Rattle.std.proofs.lemmas.List.{take_all}
use Rattle.geo_rect.specs.declared.ids.NetId.{NetId}
use Rattle.geo_rect.specs.declared.shapes.Rect.{Rect}
use Rattle.plane_core.specs.declared.strips.Strip.{Strip}
use Rattle.plane_core.specs.Strips.{IsInOrder}
use Rattle.plane_core.proofs.Choices.{choice_none, choice_taken, choice_left}
use Rattle.strip_moves.proofs.Ways.{first_point, has_first}
use Rattle.zone_fill.specs.Cuts.{IsOpenStrip, IsOpenPart, AreOpenParts}
use Rattle.zone_fill.proofs.Parts.{parts_push}

module _ (net : NetId) (zone : Rect) where
  pub cut_none : AreOpenParts net zone [] []
  cut_none = record { chosen = []; choice = choice_none (IsOpenStrip net zone); each = tt }

  -- a strip with a part meets the zone
  part_open : (s : Strip) (part : Rect) → IsOpenPart net zone s part → IsOpenStrip net zone s
  part_open s part h =
      let p = first_point part in
      let k = has_first part in
      record { admits = h.admits; meets = record { at = p; in_first = h.common.first p k; in_second = h.common.second p k } }

  module _ (strips : List Strip) (i : ℕ) (s : Strip) (parts : List Rect) (l : i < length strips) (is : s ≡ get_or strips i s) (h : AreOpenParts net zone (take i strips) parts) where
    pub cut_more : (part : Rect) → IsInOrder strips → IsOpenPart net zone s part → AreOpenParts net zone (take (i + 1) strips) (parts ++ part ∷ [])
    cut_more part order cut = record {
      chosen = h.chosen ++ s ∷ [];
      choice = choice_taken strips h.chosen (IsOpenStrip net zone) i s order l is (part_open s part cut) h.choice;
      each = parts_push zone h.chosen parts s part h.each cut.common;
    }

    pub cut_same : ¬ IsOpenStrip net zone s → AreOpenParts net zone (take (i + 1) strips) parts
    cut_same shut = record { chosen = h.chosen; choice = choice_left strips h.chosen (IsOpenStrip net zone) i s l is shut h.choice; each = h.each }

  pub cut_whole : (strips : List Strip) (i : ℕ) (parts : List Rect) → length strips ≤ i → AreOpenParts net zone (take i strips) parts → AreOpenParts net zone strips parts
  cut_whole strips i parts l h = subst (λ (ss : List Strip). AreOpenParts net zone ss parts) (take_all i strips l) h
