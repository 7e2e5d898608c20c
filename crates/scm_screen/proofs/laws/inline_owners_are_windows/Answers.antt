use Rattle.scm_screen.proofs.InlineLemmas.{inline-owners}
use Rattle.scm_screen.proofs.laws.inline_owners_are_windows.Goals as goal

pub returns : goal.returns
returns c = inline-owners
