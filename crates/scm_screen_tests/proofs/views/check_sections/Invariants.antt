use Rattle.std.proofs.Common.{drop}
use Rattle.scm_screen_tests.specs.Small.{AreSmallSections}
use Rattle.scm_screen_tests.proofs.views.check_sections.Given as goal

abbrev pub invariant-loop-view : goal.invariant-loop-view
invariant-loop-view g l = AreSmallSections (drop l.view-index l.views) → AreSmallSections l.views
