-- When one settled front makes another front needless.
use Rattle.std.specs.Prelude.{ℕ, ◌≡◌, ◌+◌, ◌≤◌}
use Rattle.geo_rect.specs.declared.shapes.Rect.{Rect}
use Rattle.geo_rect.specs.Distance.{IsReach}
use Rattle.route_law.specs.declared.certs.Entry.{Entry}
use Rattle.route_law.specs.Moves.{Arrival}

-- from a front that is reached for what is paid, one comes to each point of `to` for at most this cost
pub record IsInTime (from : Rect) (paid : ℕ) (to : Rect) (cost : ℕ) : Type 0 where
  pub way : ℕ
  pub reach : IsReach from to way
  pub enough : paid + way ≤ cost

-- the entry is one of the arrival's strip, and comes in time to each point of its front
pub record ComesBefore (e : Entry) (a : Arrival) : Type 0 where
  pub same_layer : e.layer ≡ a.layer
  pub same_strip : e.strip ≡ a.strip
  pub in_time : IsInTime e.front e.cost a.front a.cost
