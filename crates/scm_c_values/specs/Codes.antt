-- The codes that calls return to a C program.
use Rattle.std.specs.Prelude.{ℕ, ◌==◌, ◌&&◌, Bool, IsTrue, List, [], Option, Some, None, option_and_then, codes, if◌then◌else◌}
use Rattle.std.specs.Str.{is_utf8}
use Rattle.serde_json.specs.Read.{read}
use Rattle.scm_types.specs.declared.state.RecordState.{RecordState}
use Rattle.scm_types.specs.Limits.{is_accepted_state, is_short_text}
use Rattle.scm_json.specs.Form.{state_of}
use Rattle.scm_embed.specs.declared.addition.BuildError.{BuildError}
use Rattle.scm_embed.specs.declared.addition.BuildError.TheVariants as errors

-- ---- the codes of calls

-- The sentence of a code. Empty for a number that no call returns.
abbrev pub words_of_code : ℕ → List ℕ
words_of_code code =
    if code == 0 then codes "the call is done"
    else if code == 1 then codes "the session is closed"
    else if code == 2 then codes "the session doesn't wait for this now"
    else if code == 3 then codes "the bytes are no word of an event"
    else if code == 4 then codes "the bytes are no UTF-8"
    else if code == 5 then codes "the text is no state's JSON form"
    else if code == 6 then codes "the state passes a limit: of commits, of files, sections and lines together, or of a text's bytes"
    else if code == 7 then codes "a text has more than 1,000,000 bytes"
    else if code == 8 then codes "there is not enough memory"
    else if code == 9 then codes "the state has no such file, section, line or commit"
    else if code == 10 then codes "the number stands for nothing that this call takes"
    else if code == 11 then codes "a part of the text is no key with what it does, as ctrl-n=j"
    else []

-- A call returns `code`. If it needs memory, it may return 8 instead: an allocation failed.
pub data IsCode (needs_memory : Bool) (code : ℕ) : ℕ → Type 0 where
  known : IsCode needs_memory code code
  no_memory : IsTrue needs_memory → IsCode needs_memory code 8

-- The code of `gabro_new` for the state that the JSON is the form of, if any.
abbrev pub code_of_form : Option RecordState → ℕ
code_of_form None = 5
code_of_form (Some given) = if is_accepted_state given then 0 else 6

-- The code of `gabro_new` for the bytes of a JSON text.
abbrev pub code_of_json : List ℕ → ℕ
code_of_json json = if is_utf8 json then code_of_form (option_and_then state_of (read json)) else 4

-- The code of a call that was done, or that the session does not wait for.
abbrev pub done_code : Bool → ℕ
done_code is_done = if is_done then 0 else 2

-- The code of a call with a message: 7 if the message is too long, 4 if it is not UTF-8, or else `code`.
abbrev pub code_of_message : List ℕ → ℕ → ℕ
code_of_message text code = if is_short_text text then if is_utf8 text then code else 4 else 7

-- Whether the bytes can be a message: short enough, and UTF-8.
abbrev pub is_message : List ℕ → Bool
is_message text = is_short_text text && is_utf8 text

-- The code of a call with a number, if that stands for something.
abbrev pub code_of_number : {A : Type 0} → Option A → ℕ → ℕ
code_of_number None code = 10
code_of_number (Some value) code = code

-- The code of an error.
abbrev pub code_of_error : BuildError → ℕ
code_of_error errors.NoFile = 9
code_of_error errors.TooLong = 7
code_of_error errors.TooManyCommits = 6
code_of_error errors.OutOfMemory = 8

-- The code of an addition that is refused for this reason, if any.
abbrev pub code_of_refusal : Option BuildError → ℕ
code_of_refusal None = 0
code_of_refusal (Some error) = code_of_error error

-- The code of a call with marks: 9 if there is no such file, or it has more or fewer items.
abbrev pub code_of_fit : Bool → ℕ
code_of_fit fits = if fits then 0 else 9

-- The code of a call with words, if each of them has an event: 3 if one of them has none, or else `code`.
abbrev pub code_of_words : {A : Type 0} → Option A → ℕ → ℕ
code_of_words None code = 3
code_of_words (Some events) code = code
