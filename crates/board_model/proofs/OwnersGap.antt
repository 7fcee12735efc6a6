-- The gap of two owners is one, whichever is named first.
use Rattle.std.proofs.Common.{◌≡◌, ◌<◌, length, Option, Some, None, refl, All, arith}
use Rattle.std.proofs.lemmas.List.Elements.{All-get_or}
use Rattle.geo_rect.specs.declared.ids.ClassId.{ClassId}
use Rattle.geo_rect.specs.declared.ids.LayerId.{LayerId}
use Rattle.geo_rect.specs.declared.ids.NetId.{NetId}
use Rattle.board_parts.specs.declared.parts.BoardParts.{BoardParts}
use Rattle.board_parts.specs.Owners.{IsOwner}
use Rattle.board_parts.specs.Lookup.{class_of}
use Rattle.board_parts.specs.Rules.{IsBoard}
use Rattle.board_parts.specs.Gaps.{gap_between}

-- the class of a net is one of the board's
pub class_known : (b : BoardParts) → IsBoard b → (n : NetId) → n.0 < length b.net_names → (class_of b n).0 < length b.classes
class_known b h n l = All-get_or (λ (c : ClassId). c.0 < length b.classes) b.net_classes n.0 _ (omega (arith, h.net_classes)) h.each_class

pub gap_between-sym : (b : BoardParts) → IsBoard b → (l : LayerId) → l.0 < length b.layers → (x y : Option NetId) → IsOwner b x → IsOwner b y → gap_between b l x y ≡ gap_between b l y x
gap_between-sym b h l k None None o p = refl
gap_between-sym b h l k None (Some n) o p = refl
gap_between-sym b h l k (Some m) None o p = refl
gap_between-sym b h l k (Some m) (Some n) o p = h.pairs l (class_of b m) (class_of b n) k (class_known b h m o) (class_known b h n p)
