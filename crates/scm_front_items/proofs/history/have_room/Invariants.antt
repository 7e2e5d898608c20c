use Rattle.std.proofs.Common.{◌≡◌, drop}
use Rattle.std.specs.Prelude.{nat_le}
use Rattle.scm_front_items.specs.Histories.{bytes_of}
use Rattle.scm_front_items.proofs.history.have_room.Given as goal

-- the steps so far have taken what is no longer left
abbrev pub invariant-loop-step : goal.invariant-loop-step
invariant-loop-step l = nat_le (bytes_of l.steps) l.fn.room ≡ nat_le (bytes_of (drop l.step-index l.steps)) l.left
