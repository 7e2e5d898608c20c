use Rattle.scm_front.proofs.ScrollLemmas.{quiet-files}
use Rattle.scm_front.proofs.laws.ranges_are_toggles.Goals as goal

pub returns : goal.returns
returns c = λ l last anchor calls f round. quiet-files round f
