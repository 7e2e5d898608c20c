use Rattle.scm_front.specs.declared.kept.Notice.TheVariants.{NotRestored}
use Rattle.scm_front.proofs.DoLemmas.{said-keeps}
use Rattle.scm_front.proofs.layer.without_steps.Goals as goal

pub returns-clause-keeps : goal.returns-clause-keeps
returns-clause-keeps c = said-keeps c.args.kept _ NotRestored c.saying.result c.saying.ensures
