use Rattle.std.proofs.Common.{Some, refl}
use Rattle.scm_open_session.specs.Building.{BeginsState}
use Rattle.scm_c_values.specs.Codes.{IsCode}
use Rattle.scm_open_session.proofs.StageLemmas.{opens-at}
use Rattle.scm_open_session.proofs.state_calls.open.Goals as goal

pub returns-in-Some-clause-begun : goal.returns-in-Some-clause-begun
returns-in-Some-clause-begun c = λ done. opens-at (BeginsState c.args.is_read_only) (Some c.in-Some.inner.value) c.in-Some.inner.value refl c.in-Some.ensures

pub returns-in-Some-clause-code : goal.returns-in-Some-clause-code
returns-in-Some-clause-code c = IsCode.known

pub returns-in-None-clause-code : goal.returns-in-None-clause-code
returns-in-None-clause-code c = IsCode.no_memory refl
