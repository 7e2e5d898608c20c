use Rattle.std.proofs.Common.{◌≡◌, drop}
use Rattle.std.specs.Prelude.{max}
use Rattle.scm_render.specs.Drawing.{body_texts}
use Rattle.scm_overlay.specs.Dialogs.{widest_line}
use Rattle.scm_overlay.proofs.dialog.widest_line.Given as goal

abbrev pub invariant-loop-line : goal.invariant-loop-line
invariant-loop-line l = max l.widest (widest_line (body_texts (drop l.line-index l.lines))) ≡ widest_line (body_texts l.lines)
