use Rattle.std.proofs.Common.{drop}
use Rattle.scm_screen_tests.specs.Small.{AreSmallCommits}
use Rattle.scm_screen_tests.proofs.apps.check_commits.Given as goal

abbrev pub invariant-loop-view : goal.invariant-loop-view
invariant-loop-view g l = AreSmallCommits (drop l.view-index l.views) → AreSmallCommits l.views
