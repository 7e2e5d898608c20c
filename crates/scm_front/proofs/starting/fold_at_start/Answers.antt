use Rattle.std.proofs.lemmas.Result.{IfOk-weaker}
use Rattle.scm_record.specs.declared.live.Turn.TheVariants.{Waiting}
use Rattle.scm_front.proofs.BegunLemmas.{leads-still}
use Rattle.scm_front.proofs.OutcomeLemmas.{same-folds}
use Rattle.scm_front.proofs.starting.fold_at_start.Goals as goal

pub returns-in-AsIs-clause-ok : goal.returns-in-AsIs-clause-ok
returns-in-AsIs-clause-ok c = leads-still (Waiting c.args.session)

pub returns-in-AsIs-clause-folds : goal.returns-in-AsIs-clause-folds
returns-in-AsIs-clause-folds c = same-folds c.args.session
