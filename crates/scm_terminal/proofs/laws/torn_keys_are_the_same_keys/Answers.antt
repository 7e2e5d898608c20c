use Rattle.scm_terminal.proofs.TearingLemmas.{torn_keys}
use Rattle.scm_terminal.proofs.laws.torn_keys_are_the_same_keys.Goals as goal

pub returns : goal.returns
returns c = torn_keys
