use Rattle.std.proofs.Common.{ℕ, List, sym, ap, subst}
use Rattle.scm_open_session.specs.Boxes.{box_value}
use Rattle.scm_open_session.specs.Logging.{IsScriptAt}
use Rattle.scm_open_session.proofs.LoggingLemmas.{logged-closed, logged-done, logged-not, writes-script}
use Rattle.scm_open_session.proofs.layer_calls.logged.Goals as goal

pub returns-in-Ok-clause-script : goal.returns-in-Ok-clause-script
returns-in-Ok-clause-script c = λ done.
    writes-script (box_value c.args.session.now) c.in-Some.inner.value c.deref.result.now c.as_slice.result.now c.args.out.now c.write_text.new.out c.write_text.result
    (ap box_value c.in-Some.is) c.deref.ensures
    (subst (λ (bytes : List ℕ). IsScriptAt c.deref.result.now.stage bytes) (sym c.as_slice.ensures.value) c.in-Ok.ensures.ok)
    c.write_text.ensures.len c.write_text.ensures.written

pub returns-in-Ok-clause-code : goal.returns-in-Ok-clause-code
returns-in-Ok-clause-code c = logged-done (box_value c.args.session.now) c.in-Some.inner.value (ap box_value c.in-Some.is)

pub returns-in-Err-clause-code : goal.returns-in-Err-clause-code
returns-in-Err-clause-code c = logged-not (box_value c.args.session.now) c.in-Some.inner.value c.in-Err.code (ap box_value c.in-Some.is) c.in-Err.ensures.err

pub returns-in-None-clause-code : goal.returns-in-None-clause-code
returns-in-None-clause-code c = logged-closed (box_value c.args.session.now) (ap box_value c.in-None.is)
