use Rattle.std.proofs.Common.{rules}
use Rattle.scm_screen_tests.proofs.ViewLemmas.{short-commits}
use Rattle.scm_screen_tests.proofs.apps.check_view.Goals as goal

pub returns : goal.returns
returns g c = record { menu_bar = search rules; commits = short-commits _ (rw c.as_slice-commits.ensures at c.check_commits.ensures) }
