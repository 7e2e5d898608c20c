use Rattle.scm_document.proofs.DocumentLemmas.{commits-painted}
use Rattle.scm_view.proofs.laws.documents_are_painted.Goals as goal

pub returns : goal.returns
returns c = commits-painted
