use Rattle.std.proofs.Common.{drop}
use Rattle.scm_screen_tests.specs.Small.{AreSmallFiles}
use Rattle.scm_screen_tests.proofs.views.check_files.Given as goal

abbrev pub invariant-loop-view : goal.invariant-loop-view
invariant-loop-view g l = AreSmallFiles (drop l.view-index l.views) → AreSmallFiles l.views
