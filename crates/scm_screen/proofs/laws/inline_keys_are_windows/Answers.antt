use Rattle.scm_screen.proofs.InlineLemmas.{inline-keys}
use Rattle.scm_screen.proofs.laws.inline_keys_are_windows.Goals as goal

pub returns : goal.returns
returns c = inline-keys
