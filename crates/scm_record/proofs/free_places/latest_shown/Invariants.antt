use Rattle.std.proofs.Common.{◌≡◌, drop, fold}
use Rattle.std.specs.Prelude.{None}
use Rattle.scm_render.specs.Target.{look}
use Rattle.scm_widgets.specs.Clicks.{is_clickable}
use Rattle.scm_record.proofs.free_places.latest_shown.Given as goal

abbrev pub invariant-loop-entry : goal.invariant-loop-entry
invariant-loop-entry l = fold (look is_clickable l.row l.column) l.found (drop l.entry-index l.shown) ≡ fold (look is_clickable l.row l.column) None l.shown
