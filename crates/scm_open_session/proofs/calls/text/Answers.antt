use Rattle.std.proofs.Common.{ℕ, List, sym, ap, subst}
use Rattle.scm_open_session.specs.Boxes.{box_value}
use Rattle.scm_open_session.specs.Results.{IsText}
use Rattle.scm_open_session.proofs.ResultLemmas.{text_closed, text_done, text_refused, writes_text}
use Rattle.scm_open_session.proofs.calls.text.Goals as goal

pub returns-in-Some-text-clause-text : goal.returns-in-Some-text-clause-text
returns-in-Some-text-clause-text c = λ done.
    writes_text (box_value c.args.session.now) c.in-Some.inner.value c.deref.result.now c.as_bytes.result.now c.args.out.now c.write_text.new.out c.write_text.result
    (ap box_value c.in-Some.is) c.deref.ensures
    (subst (λ (bytes : List ℕ). IsText c.deref.result.now.stage c.deref.result.now.painter bytes) (sym c.as_bytes.ensures.value) c.in-Some-text.ensures)
    c.write_text.ensures.len c.write_text.ensures.written

pub returns-in-Some-text-clause-code : goal.returns-in-Some-text-clause-code
returns-in-Some-text-clause-code c = text_done (box_value c.args.session.now) c.in-Some.inner.value (ap box_value c.in-Some.is)

pub returns-in-None-text-clause-code : goal.returns-in-None-text-clause-code
returns-in-None-text-clause-code c = text_refused (box_value c.args.session.now) c.in-Some.inner.value (ap box_value c.in-Some.is)

pub returns-in-None-clause-code : goal.returns-in-None-clause-code
returns-in-None-clause-code c = text_closed (box_value c.args.session.now) (ap box_value c.in-None.is)
