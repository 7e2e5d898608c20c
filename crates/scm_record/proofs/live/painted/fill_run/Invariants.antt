use Rattle.std.proofs.Common.{◌≡◌, ℕ, ◌-◌, ◌<◌, ◌≤◌, get_or, length}
use Rattle.scm_terminal.specs.Style.{plain_style}
use Rattle.scm_record.proofs.live.painted.fill_run.Given as goal

abbrev pub invariant-places : goal.invariant-places
invariant-places l = record {
  low : l.from ≤ l.place;
  high : l.place ≤ l.end;
  long : length l.styles ≡ length l.fn.styles;
  before : (k : ℕ) → k < l.from → get_or l.styles k plain_style ≡ get_or l.fn.styles k plain_style;
  within : (k : ℕ) → l.from ≤ k → k < l.place → get_or l.styles k plain_style ≡ l.style;
}

abbrev pub decreases-places : goal.decreases-places
decreases-places l = l.end - l.place
