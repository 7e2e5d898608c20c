use Rattle.scm_screen.proofs.InlineLemmas.{inline-rows}
use Rattle.scm_screen.proofs.laws.inline_rows_are_windows.Goals as goal

pub returns : goal.returns
returns c = inline-rows
