use Rattle.scm_view.proofs.WindowOwnerLemmas.{keys-rows}
use Rattle.scm_view.proofs.laws.keys_have_rows.Goals as goal

pub returns : goal.returns
returns c = keys-rows
