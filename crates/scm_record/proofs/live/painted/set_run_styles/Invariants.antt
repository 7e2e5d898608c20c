use Rattle.std.proofs.Common.{◌≡◌, ℕ, ◌-◌, ◌<◌, ◌≤◌, get_or, length}
use Rattle.scm_terminal.specs.Style.{plain_style}
use Rattle.scm_record.specs.Frames.{IsSceneOf, Scene}
use Rattle.scm_record.specs.Painted.{style_in}
use Rattle.scm_record.proofs.live.painted.set_run_styles.Given as goal

abbrev pub invariant-runs : goal.invariant-runs
invariant-runs l = record {
  within : l.column ≤ length l.styles;
  long : length l.styles ≡ length l.fn.styles;
  shown : (scene : Scene) → IsSceneOf scene l.frame → (k : ℕ) → k < l.column → get_or l.styles k plain_style ≡ style_in scene l.view_state l.scroll l.row k;
}

abbrev pub decreases-runs : goal.decreases-runs
decreases-runs l = length l.styles - l.column
