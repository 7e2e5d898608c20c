-- The log of the calls beneath a layer.
use Rattle.std.proofs.Common.{◌≡◌, ℕ, List, length, Bool, true, false, IsTrue, Option, Some, None, refl, subst}
use Rattle.scm_open_session.specs.declared.open_session.OpenSession.{OpenSession}
use Rattle.scm_c_values.specs.Buffers.{over}
use Rattle.scm_c_values.specs.Codes.{done_code}
use Rattle.scm_open_session.specs.LayerCalls.{is_view}
use Rattle.scm_open_session.specs.Logging.{IsScriptAt, IsLogCode, IsLoggedCode, IsUnloggedCode, WritesScript}

-- the codes of `gabro_log`
begun-code : (b : Bool) (inner : OpenSession) → (IsTrue b → IsTrue (is_view inner.stage)) → IsLogCode (Some inner) (done_code b)
begun-code true inner view = IsLogCode.log_begun (view refl)
begun-code false inner view = IsLogCode.log_late

pub log-code : (old : Option OpenSession) (h before : OpenSession) (is_done : Bool) (code : ℕ) → old ≡ Some h → before ≡ h → code ≡ done_code is_done
    → (IsTrue is_done → IsTrue (is_view before.stage)) → IsLogCode old code
log-code old h before is_done code e f is view =
    rw (e, is) (subst (λ (x : OpenSession). IsLogCode (Some x) (done_code is_done)) f (begun-code is_done before view))

pub log-closed : (old : Option OpenSession) → old ≡ None → IsLogCode old 1
log-closed old e = rw e IsLogCode.log_closed

-- the codes of `gabro_logged`
pub logged-done : (old : Option OpenSession) (h : OpenSession) → old ≡ Some h → IsLoggedCode old 0
logged-done old h e = rw e IsLoggedCode.logged_done

pub logged-not : (old : Option OpenSession) (h : OpenSession) (code : ℕ) → old ≡ Some h → IsUnloggedCode code → IsLoggedCode old code
logged-not old h code e not = rw e (IsLoggedCode.logged_not not)

pub logged-closed : (old : Option OpenSession) → old ≡ None → IsLoggedCode old 1
logged-closed old e = rw e IsLoggedCode.logged_closed

-- what `gabro_logged` writes
pub writes-script : (old : Option OpenSession) (h before : OpenSession) (text out new : List ℕ) (answer : ℕ) → old ≡ Some h → before ≡ h
    → IsScriptAt before.stage text → answer ≡ length text → new ≡ over text out → WritesScript old out new answer
writes-script old h before text out new answer e f is l w =
    rw e (record { text = text; is_script = subst (λ (x : OpenSession). IsScriptAt x.stage text) f is; length_told = l; written = w })
