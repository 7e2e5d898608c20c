use Rattle.std.proofs.Common.{◌≡◌, ℕ, ◌-◌, ◌≤◌, get_or, length}
use Rattle.std.specs.Prelude.{max}
use Rattle.scm_terminal.specs.Style.{plain_style}
use Rattle.scm_front_paint.specs.Restyling.{AreRestyled, style_after}
use Rattle.scm_front_paint.proofs.restyling.restyle_run.Given as goal

abbrev pub invariant-places : goal.invariant-places
invariant-places l = record {
  low : l.from ≤ l.column;
  high : l.column ≤ max l.from l.stop;
  long : length l.styles ≡ length l.fn.styles;
  known : AreRestyled l.effect l.known;
  each : (c : ℕ) → get_or l.styles c plain_style ≡ style_after l.effect l.from l.column c (get_or l.fn.styles c plain_style);
}

abbrev pub decreases-places : goal.decreases-places
decreases-places l = l.stop - l.column
