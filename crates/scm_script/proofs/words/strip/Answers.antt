use Rattle.scm_script.proofs.WordLemmas.{stripped}
use Rattle.scm_script.proofs.words.strip.Goals as goal

pub returns : goal.returns
returns c = stripped c.args.prefix.now c.args.word.now c.strip_prefix.result c.strip_prefix.ensures.cases
