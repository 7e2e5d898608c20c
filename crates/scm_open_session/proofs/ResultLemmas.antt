-- Return codes, and the texts that calls write.
use Rattle.std.proofs.Common.{◌≡◌, ℕ, List, length, Bool, Option, Some, None, is_some, refl, sym, ap, ◌∙◌, subst}
use Rattle.scm_input.specs.declared.events.Event.{Event}
use Rattle.scm_open_session.specs.declared.open_session.OpenSession.{OpenSession}
use Rattle.scm_open_session.specs.declared.open_session.Stage.{Stage}
use Rattle.scm_open_session.specs.Stages.{is_waiting}
use Rattle.scm_c_values.specs.Codes.{IsCode, done_code}
use Rattle.scm_open_session.specs.Results.{IsRead, IsText, Writes, code_of_call, code_of_press, code_of_repaint, code_where, is_session_waiting}
use Rattle.scm_c_values.specs.Buffers.{over}

-- codes

pub call_code : (is_due : Stage → Bool) (old : Option OpenSession) (h before : OpenSession) (is_done : Bool)
    → old ≡ Some h → before ≡ h → is_done ≡ is_due before.stage → done_code is_done ≡ code_where is_due old
call_code is_due old h before is_done e f g = ap done_code (g ∙ ap (λ (x : OpenSession). is_due x.stage) f) ∙ ap (λ (o : Option OpenSession). code_where is_due o) (sym e)

pub press_code : (event : Event) (word : Option Event) (old : Option OpenSession) → word ≡ Some event → code_of_call old ≡ code_of_press word old
press_code event word old e = ap (λ (o : Option Event). code_of_press o old) (sym e)

pub resized_code : (old : Option OpenSession) (h before : OpenSession) (answer : ℕ) → old ≡ Some h → before ≡ h
    → IsCode (is_waiting before.stage) (done_code (is_waiting before.stage)) answer → IsCode (is_session_waiting old) (code_of_call old) answer
resized_code old h before answer e f code = rw e (subst (λ (x : OpenSession). IsCode (is_waiting x.stage) (done_code (is_waiting x.stage)) answer) f code)

pub closed_code : (old : Option OpenSession) (answer : ℕ) → old ≡ None → answer ≡ 1 → IsCode (is_session_waiting old) (code_of_call old) answer
closed_code old answer e f = rw (e, f) IsCode.known

-- texts

pub text_done : (old : Option OpenSession) (h : OpenSession) → old ≡ Some h → IsCode (is_some old) (code_of_repaint old) 0
text_done old h e = rw e IsCode.known

pub text_refused : (old : Option OpenSession) (h : OpenSession) → old ≡ Some h → IsCode (is_some old) (code_of_repaint old) 8
text_refused old h e = rw e (IsCode.no_memory refl)

pub text_closed : (old : Option OpenSession) → old ≡ None → IsCode (is_some old) (code_of_repaint old) 1
text_closed old e = rw e IsCode.known

pub writes_text : (old : Option OpenSession) (h before : OpenSession) (text : List ℕ) (out new : List ℕ) (answer : ℕ)
    → old ≡ Some h → before ≡ h → IsText before.stage before.painter text → answer ≡ length text → new ≡ over text out → Writes old out new answer
writes_text old h before text out new answer e f is l w =
    record { text = text; is_read = rw e (IsRead.of_stage (subst (λ (x : OpenSession). IsText x.stage x.painter text) f is)); length_told = l; written = w }
