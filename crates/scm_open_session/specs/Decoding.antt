-- The words of what a terminal sends, without a session that handles them.
use Rattle.std.specs.Prelude.{ℕ, ◌≤◌, ◌<◌, List, length, Option, Some, None}
use Rattle.scm_input.specs.declared.terminal.TerminalEvent.{TerminalEvent}
use Rattle.scm_terminal.specs.declared.decoder.Decoder.{Decoder}
use Rattle.scm_open_session.specs.declared.open_session.OpenSession.{OpenSession}
use Rattle.scm_c_values.specs.Buffers.{over}
use Rattle.scm_c_values.specs.EventWords.{words_of_events}

-- ---- what a decoder hears

-- An open session whose decoder is this one.
abbrev pub with_decoder : OpenSession → Decoder → OpenSession
with_decoder inner decoder = record inner { decoder = decoder }

-- The words are written to a buffer, if they fit. If not, nothing is written, and the decoder is as it was.
pub data Tells (inner : OpenSession) (decoder : Decoder) (words out : List ℕ) : OpenSession → List ℕ → Type 0 where
  written : length words ≤ length out → Tells inner decoder words out (with_decoder inner decoder) (over words out)
  no_room : length out < length words → Tells inner decoder words out inner out

-- The words of events are written to a buffer, if they fit, and their length is told. Without a length an allocation failed, and
-- nothing changed.
pub data TellsEvents (inner : OpenSession) (decoder : Decoder) (list : List TerminalEvent) (out : List ℕ)
    : OpenSession → List ℕ → Option ℕ → Type 0 where
  told : {new : OpenSession} {filled : List ℕ} → Tells inner decoder (words_of_events list) out new filled
      → TellsEvents inner decoder list out new filled (Some (length (words_of_events list)))
  no_words : TellsEvents inner decoder list out inner out None

-- A call that decodes on an open session: the decoder hears events, whose words are written. Or an allocation failed, and nothing
-- changed.
pub data DecodesOpen (Hears : Decoder → Decoder → List TerminalEvent → Type 0) (old : OpenSession) (out : List ℕ)
    : OpenSession → List ℕ → Option ℕ → Type 0 where
  decoded : {decoder : Decoder} {list : List TerminalEvent} {new : OpenSession} {filled : List ℕ} {told : Option ℕ}
      → Hears old.decoder decoder list → TellsEvents old decoder list out new filled told → DecodesOpen Hears old out new filled told
  refused : DecodesOpen Hears old out old out None

-- A call that decodes on a session: the buffer, the code, and the length that it tells.
pub data Decodes (Hears : Decoder → Decoder → List TerminalEvent → Type 0)
    : Option OpenSession → Option OpenSession → List ℕ → List ℕ → ℕ → ℕ → ℕ → Type 0 where
  closed : {out : List ℕ} {told : ℕ} → Decodes Hears None None out out 1 told told
  done : {old new : OpenSession} {out filled : List ℕ} {told count : ℕ} → DecodesOpen Hears old out new filled (Some count)
      → Decodes Hears (Some old) (Some new) out filled 0 told count
  no_memory : {inner : OpenSession} {out : List ℕ} {told : ℕ} → Decodes Hears (Some inner) (Some inner) out out 8 told told
