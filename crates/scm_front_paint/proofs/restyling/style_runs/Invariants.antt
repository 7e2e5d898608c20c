use Rattle.std.proofs.Common.{◌≡◌, ℕ, ◌<◌, get_or, length, take}
use Rattle.scm_terminal.specs.Style.{plain_style}
use Rattle.scm_front_paint.specs.Syntax.{with_runs}
use Rattle.scm_front_paint.proofs.restyling.style_runs.Given as goal

abbrev pub invariant-loop-run : goal.invariant-loop-run
invariant-loop-run l = record {
  long : length l.styles ≡ length l.fn.styles;
  each : (c : ℕ) → c < length l.fn.styles → get_or l.styles c plain_style ≡ with_runs (take l.run-index l.runs) c (get_or l.fn.styles c plain_style);
}
