use Rattle.std.proofs.Common.{refl}
use Rattle.std.proofs.lemmas.Result.{IfOk-weaker}
use Rattle.scm_record.specs.declared.live.Turn.TheVariants.{Waiting}
use Rattle.scm_front.specs.Starting.{folds, shows}
use Rattle.scm_front.proofs.BegunLemmas.{leads-still}
use Rattle.scm_front.proofs.DeedLemmas.{round-path}
use Rattle.scm_front.proofs.OutcomeLemmas.{same-folds}
use Rattle.scm_front.proofs.StartLemmas.{round-refolds}
use Rattle.scm_front.proofs.starting.fold_unless_shown.Goals as goal

pub returns-then-shows-clause-ok : goal.returns-then-shows-clause-ok
returns-then-shows-clause-ok c = leads-still (Waiting c.args.session)

pub returns-else-shows-clause-ok : goal.returns-else-shows-clause-ok
returns-else-shows-clause-ok c = IfOk-weaker c.do_round.result _ _ (λ turn r. (r.0, round-path r.1)) c.do_round.ensures.ok

pub returns-then-shows-clause-folds : goal.returns-then-shows-clause-folds
returns-then-shows-clause-folds c = λ folds. same-folds c.args.session

pub returns-else-shows-clause-folds : goal.returns-else-shows-clause-folds
returns-else-shows-clause-folds c = λ folds. IfOk-weaker c.do_round.result _ _ (λ turn r. round-refolds r.1 folds) c.do_round.ensures.ok

pub returns-then-shows-clause-shown : goal.returns-then-shows-clause-shown
returns-then-shows-clause-shown c = shows refl

pub returns-else-shows-clause-shown : goal.returns-else-shows-clause-shown
returns-else-shows-clause-shown c = IfOk-weaker c.do_round.result _ _ (λ turn r. folds r.1) c.do_round.ensures.ok
