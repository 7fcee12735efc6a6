use Rattle.std.proofs.Common.{List, get_or, ap}
use Rattle.geo_rect.specs.Plane.{columns, rows}
use Rattle.gerber_out.specs.declared.contours.Corner.{Corner}
use Rattle.gerber_out.proofs.contours.enclosed.Goals as goal

pub returns-in_default-clause-none : goal.returns-in_default-clause-none
returns-in_default-clause-none c = λ r h. c.in_default.ensures.none (columns r) (record {
  span = h.fillable.across;
  first = ap (λ (points : List Corner). (get_or points 0 (record { x = 0; y = 0 })).x) h.same;
  last = ap (λ (points : List Corner). (get_or points 2 (record { x = 0; y = 0 })).x) h.same;
})

pub returns-in_default-span-clause-none : goal.returns-in_default-span-clause-none
returns-in_default-span-clause-none c = λ r h. c.in_default-span.ensures.none (rows r) (record {
  span = h.fillable.up;
  first = ap (λ (points : List Corner). (get_or points 0 (record { x = 0; y = 0 })).y) h.same;
  last = ap (λ (points : List Corner). (get_or points 2 (record { x = 0; y = 0 })).y) h.same;
})
