use Rattle.std.proofs.Common.{Some, refl}
use Rattle.std.specs.Str.{is_utf8}
use Rattle.scm_open_session.specs.LayerCalls.{BeginsLayer}
use Rattle.scm_c_values.specs.Codes.{code_of_json}
use Rattle.scm_open_session.proofs.StageLemmas.{opens-at}
use Rattle.scm_c_values.proofs.CodeLemmas.{known_as}
use Rattle.scm_open_session.proofs.layer_calls.open.Goals as goal

pub returns-in-Ok-clause-begun : goal.returns-in-Ok-clause-begun
returns-in-Ok-clause-begun c = λ done. opens-at (BeginsLayer c.args.json.now c.args.width c.args.height) (Some c.in-Ok.inner.value) c.in-Ok.inner.value refl c.in-Ok.ensures.ok

pub returns-in-Ok-clause-code : goal.returns-in-Ok-clause-code
returns-in-Ok-clause-code c = known_as (is_utf8 c.args.json.now) (code_of_json c.args.json.now) 0 c.in-Ok.ensures.good
