-- Codes of calls, and what is handed in as bytes.
use Rattle.std.proofs.Common.{◌≡◌, ℕ, List, ◌<◌, ◌≤◌, length, Bool, true, false, ◌&&◌, IsTrue, if◌then◌else◌, Option, Some, None, option_and_then, IsUtf8, refl, sym, ap, ◌∙◌}
use Rattle.std.specs.Str.{is_utf8}
use Rattle.std.proofs.lemmas.Str.{IsUtf8-from_is_utf8, is_utf8-from_IsUtf8}
use Rattle.std.proofs.lemmas.Bool.{false≢true, lt-leb, le-leb}
use Rattle.serde_json.specs.Read.{read}
use Rattle.scm_types.specs.declared.state.RecordState.{RecordState}
use Rattle.scm_types.specs.Limits.{is_accepted_state, is_short_text, max_text}
use Rattle.scm_json.specs.Form.{state_of}
use Rattle.scm_script.specs.Words.{event_of_word}
use Rattle.scm_c_values.specs.Codes.{IsCode, code_of_form, code_of_json, code_of_message, done_code, is_message, code_of_error, code_of_refusal, code_of_number}
use Rattle.scm_c_values.specs.Pieces.{event_of_bytes}
use Rattle.scm_embed.specs.declared.addition.BuildError.{BuildError}
use Rattle.scm_embed.specs.Additions.{Refuses, refuses, no_memory}
use Rattle.scm_c_values.specs.FromBytes.{text_of_bytes}

-- the event of a word

pub word_event : (bytes : List ℕ) → IsUtf8 bytes → event_of_word bytes ≡ event_of_bytes bytes
word_event bytes u = ap (λ (t : Bool). if t then event_of_word bytes else None) (sym (is_utf8-from_IsUtf8 bytes u))

is_false : (t : Bool) → (t ≡ true → ⊥) → t ≡ false
is_false true n = absurd (n refl)
is_false false n = refl

pub not_utf8 : (bytes : List ℕ) → ¬ (IsUtf8 bytes) → is_utf8 bytes ≡ false
not_utf8 bytes n = is_false (is_utf8 bytes) (λ e. n (IsUtf8-from_is_utf8 bytes e))

pub no_event : (bytes : List ℕ) → ¬ (IsUtf8 bytes) → None ≡ event_of_bytes bytes
no_event bytes n = ap (λ (t : Bool). if t then event_of_word bytes else None) (sym (not_utf8 bytes n))

-- codes

pub known_as : (needs_memory : Bool) (code answer : ℕ) → code ≡ answer → IsCode needs_memory code answer
known_as needs_memory code answer e = rw e IsCode.known

-- a session that waits is resized, or an allocation failed
pub resize_code : (is_due is_done : Bool) (answer : ℕ) → is_due ≡ true → answer ≡ (if is_done then 0 else 8) → IsCode is_due (done_code is_due) answer
resize_code is_due true answer e f = rw (e, f) IsCode.known
resize_code is_due false answer e f = rw (e, f) (IsCode.no_memory refl)

pub not_due_code : (is_due : Bool) → is_due ≡ false → IsCode is_due (done_code is_due) 2
not_due_code is_due e = rw e IsCode.known

pub is_resized : (is_done : Bool) (answer : ℕ) → answer ≡ (if is_done then 0 else 8) → answer ≡ 0 → IsTrue is_done
is_resized true answer e f = refl
is_resized false answer e f = cc

-- messages

-- what `IsCode` says of a text, by whether it is short and whether it is UTF-8
abbrev Coded : Bool → Bool → ℕ → ℕ → Type 0
Coded short utf8 code answer = IsCode (short && utf8) (if short then if utf8 then code else 4 else 7) answer

coded_long : (short utf8 : Bool) (code : ℕ) → short ≡ false → Coded short utf8 code 7
coded_long short utf8 code e = rw e IsCode.known

coded_bytes : (short utf8 : Bool) (code : ℕ) → short ≡ true → utf8 ≡ false → Coded short utf8 code 4
coded_bytes short utf8 code e f = rw (e, f) IsCode.known

coded_copy : (short utf8 : Bool) (code answer : ℕ) → IsTrue (short && utf8) → answer ≡ code → Coded short utf8 code answer
coded_copy true true code answer t e = rw e IsCode.known
coded_copy true false code answer t e = absurd (false≢true t)
coded_copy false utf8 code answer t e = absurd (false≢true t)

pub long_message : (text : List ℕ) (code : ℕ) → max_text < length text → IsCode (is_message text) (code_of_message text code) 7
long_message text code h = coded_long (is_short_text text) (is_utf8 text) code (lt-leb (length text) max_text h)

pub bad_message : (text : List ℕ) (code : ℕ) → length text ≤ max_text → ¬ (IsUtf8 text) → IsCode (is_message text) (code_of_message text code) 4
bad_message text code h n = coded_bytes (is_short_text text) (is_utf8 text) code (le-leb (length text) max_text h) (not_utf8 text n)

pub good_message : (text : List ℕ) → length text ≤ max_text → IsUtf8 text → IsTrue (is_message text)
good_message text h u = rw (le-leb (length text) max_text h, is_utf8-from_IsUtf8 text u) refl

pub message_code : (text : List ℕ) (code answer : ℕ) → IsTrue (is_message text) → answer ≡ code → IsCode (is_message text) (code_of_message text code) answer
message_code text code answer t e = coded_copy (is_short_text text) (is_utf8 text) code answer t e

-- states

-- what `IsCode` says of a state's text, by whether it is UTF-8 and of what it is the form
abbrev Formed : Bool → Option RecordState → ℕ → Type 0
Formed utf8 form answer = IsCode utf8 (if utf8 then code_of_form form else 4) answer

formed_bytes : (utf8 : Bool) (form : Option RecordState) → utf8 ≡ false → Formed utf8 form 4
formed_bytes utf8 form e = rw e IsCode.known

formed_none : (utf8 : Bool) (form : Option RecordState) → utf8 ≡ true → form ≡ None → Formed utf8 form 5
formed_none utf8 form e f = rw (e, f) IsCode.known

formed_large : (utf8 : Bool) (form : Option RecordState) (given : RecordState) → utf8 ≡ true → form ≡ Some given → is_accepted_state given ≡ false → Formed utf8 form 6
formed_large utf8 form given e f g = rw (e, f) (rw g IsCode.known)

pub bad_text : (json : List ℕ) → ¬ (IsUtf8 json) → IsCode (is_utf8 json) (code_of_json json) 4
bad_text json n = formed_bytes (is_utf8 json) (option_and_then state_of (read json)) (not_utf8 json n)

pub no_form : (json : List ℕ) → IsUtf8 json → option_and_then state_of (read json) ≡ None → IsCode (is_utf8 json) (code_of_json json) 5
no_form json u e = formed_none (is_utf8 json) (option_and_then state_of (read json)) (is_utf8-from_IsUtf8 json u) e

pub not_accepted : (json : List ℕ) (given : RecordState)
    → IsUtf8 json → option_and_then state_of (read json) ≡ Some given → is_accepted_state given ≡ false → IsCode (is_utf8 json) (code_of_json json) 6
not_accepted json given u e f = formed_large (is_utf8 json) (option_and_then state_of (read json)) given (is_utf8-from_IsUtf8 json u) e f

-- codes

error_coded : {refusal : Option BuildError} {error : BuildError} → Refuses refusal error → IsCode true (code_of_refusal refusal) (code_of_error error)
error_coded (refuses {error = error}) = IsCode.known
error_coded (no_memory {refusal = refusal}) = IsCode.no_memory refl

pub refused_code : (refusal : Option BuildError) (error : BuildError) (answer : ℕ) → Refuses refusal error → answer ≡ code_of_error error → IsCode true (code_of_refusal refusal) answer
refused_code refusal error answer r e = rw e (error_coded r)

pub added_code : (refusal : Option BuildError) → refusal ≡ None → IsCode true (code_of_refusal refusal) 0
added_code refusal e = rw e IsCode.known

-- files of two versions

pub long_change : (is_short : Bool) → is_short ≡ false → IsCode true (if is_short then 0 else 7) 7
long_change is_short e = rw e IsCode.known

pub length_code : (is_short : Bool) → is_short ≡ true → IsCode true (if is_short then 0 else 7) 0
length_code is_short e = rw e IsCode.known

-- texts

pub text_found : (bytes text : List ℕ) → text ≡ bytes → IsUtf8 bytes → Some text ≡ text_of_bytes bytes
text_found bytes text e u = ap Some e ∙ ap (λ (t : Bool). if t then Some bytes else None) (sym (is_utf8-from_IsUtf8 bytes u))

pub no_text : (bytes : List ℕ) → ¬ (IsUtf8 bytes) → None ≡ text_of_bytes bytes
no_text bytes n = ap (λ (t : Bool). if t then Some bytes else None) (sym (not_utf8 bytes n))

-- beginnings

pub no_memory_as : (json : List ℕ) (code : ℕ) → IsTrue (is_utf8 json) → code ≡ 8 → IsCode (is_utf8 json) (code_of_json json) code
no_memory_as json code u e = rw e (IsCode.no_memory u)

-- what a session is painted with

pub number_code : {A : Type 0} (given : Option A) (value : A) (code answer : ℕ) → given ≡ Some value → answer ≡ code → answer ≡ code_of_number given code
number_code given value code answer e f = rw e f

pub no_number_code : {A : Type 0} (given : Option A) (code : ℕ) → given ≡ None → 10 ≡ code_of_number given code
no_number_code given code e = rw e refl
