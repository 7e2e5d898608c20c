-- The words of what a terminal sends.
use Rattle.std.proofs.Common.{◌≡◌, ℕ, ◌≤◌, ◌<◌, List, [], length, Option, Some, None, ap, ◌∙◌, subst}
use Rattle.std.specs.Prelude.{option_to_list}
use Rattle.scm_terminal.specs.Decoders.{Adds}
use Rattle.scm_record.specs.Typed.{SilenceMeans}
use Rattle.scm_input.specs.declared.terminal.TerminalEvent.{TerminalEvent}
use Rattle.scm_terminal.specs.declared.decoder.Decoder.{Decoder}
use Rattle.scm_open_session.specs.declared.open_session.OpenSession.{OpenSession}
use Rattle.scm_c_values.specs.Buffers.{over}
use Rattle.scm_open_session.specs.Decoding.{Decodes, DecodesOpen, Tells, TellsEvents, with_decoder}
use Rattle.scm_c_values.specs.EventWords.{HearsBytes, HearsSilence, words_of_events}

pub tells_written : (inner new : OpenSession) (decoder : Decoder) (words out filled : List ℕ)
    → length words ≤ length out → new ≡ with_decoder inner decoder → filled ≡ over words out → Tells inner decoder words out new filled
tells_written inner new decoder words out filled h e w = rw (e, w) (Tells.written h)

pub tells_nothing : (inner : OpenSession) (decoder : Decoder) (words out : List ℕ) → length out < length words → Tells inner decoder words out inner out
tells_nothing inner decoder words out h = Tells.no_room h

-- ---- calls

some_not_none : (n : ℕ) → ◌≡◌ {A = Option ℕ} (Some n) None → ⊥
some_not_none n e = cc

abbrev Hearing : Type 1
Hearing = Decoder → Decoder → List TerminalEvent → Type 0

pub tells_words : (inner new : OpenSession) (decoder : Decoder) (list : List TerminalEvent) (words bytes out filled : List ℕ) (count : ℕ)
    → words ≡ words_of_events list → bytes ≡ words → Tells inner decoder bytes out new filled → count ≡ length bytes
    → TellsEvents inner decoder list out new filled (Some count)
tells_words inner new decoder list words bytes out filled count e f t n =
    let are : bytes ≡ words_of_events list = f ∙ e in
    rw (n ∙ ap length are) (TellsEvents.told (subst (λ (x : List ℕ). Tells inner decoder x out new filled) are t))

pub decodes_bytes : (old new : OpenSession) (bytes out filled : List ℕ) (decoder : Decoder) (before items slice : List TerminalEvent) (told : Option ℕ)
    → before ≡ [] → Adds old.decoder decoder bytes before items → slice ≡ items → TellsEvents old decoder slice out new filled told
    → DecodesOpen (HearsBytes bytes) old out new filled told
decodes_bytes old new bytes out filled decoder before items slice told e a f t =
    DecodesOpen.decoded (subst (λ (x : List TerminalEvent). Adds old.decoder decoder bytes x items) e a)
    (subst (λ (x : List TerminalEvent). TellsEvents old decoder x out new filled told) f t)

pub decodes_silence : (old new : OpenSession) (out filled : List ℕ) (decoder : Decoder) (found event : Option TerminalEvent) (told : Option ℕ)
    → SilenceMeans old.decoder decoder found → found ≡ event → TellsEvents old decoder (option_to_list event) out new filled told
    → DecodesOpen HearsSilence old out new filled told
decodes_silence old new out filled decoder found event told m e t =
    DecodesOpen.decoded (HearsSilence.silent event (subst (λ (x : Option TerminalEvent). SilenceMeans old.decoder decoder x) e m)) t

pub decodes-done : (Hears : Hearing) (old new : Option OpenSession) (h before k : OpenSession) (out filled : List ℕ) (told count : ℕ) (r : Option ℕ)
    → old ≡ Some h → before ≡ h → new ≡ Some k → r ≡ Some count → DecodesOpen Hears before out k filled r
    → Decodes Hears old new out filled 0 told count
decodes-done Hears old new h before k out filled told count r e f g is d =
    rw (e, g) (Decodes.done (subst (λ (x : OpenSession). DecodesOpen Hears x out k filled (Some count)) f
    (subst (λ (x : Option ℕ). DecodesOpen Hears before out k filled x) is d)))

unwritten-as : (Hears : Hearing) {decoder : Decoder} {list : List TerminalEvent} (old new : OpenSession) (out filled : List ℕ) (r : Option ℕ) (told : ℕ)
    → TellsEvents old decoder list out new filled r → r ≡ None → Decodes Hears (Some old) (Some new) out filled 8 told told
unwritten-as Hears old new out filled None told TellsEvents.no_words e = Decodes.no_memory
unwritten-as Hears old new out filled (Some count) told t e = absurd (some_not_none count e)

-- a call without memory changes nothing
refused-as : (Hears : Hearing) (old new : OpenSession) (out filled : List ℕ) (r : Option ℕ) (told : ℕ) → DecodesOpen Hears old out new filled r → r ≡ None
    → Decodes Hears (Some old) (Some new) out filled 8 told told
refused-as Hears old new out filled None told DecodesOpen.refused e = Decodes.no_memory
refused-as Hears old new out filled r told (DecodesOpen.decoded hears tells) e = unwritten-as Hears old new out filled r told tells e

pub decodes-refused : (Hears : Hearing) (old new : Option OpenSession) (h before k : OpenSession) (out filled : List ℕ) (told : ℕ) (r : Option ℕ)
    → old ≡ Some h → before ≡ h → new ≡ Some k → r ≡ None → DecodesOpen Hears before out k filled r
    → Decodes Hears old new out filled 8 told told
decodes-refused Hears old new h before k out filled told r e f g is d =
    rw (e, g) (refused-as Hears h k out filled r told (subst (λ (x : OpenSession). DecodesOpen Hears x out k filled r) f d) is)

pub decodes-closed : (Hears : Hearing) (old new : Option OpenSession) (out : List ℕ) (told : ℕ) → old ≡ None → new ≡ None → Decodes Hears old new out out 1 told told
decodes-closed Hears old new out told e f = rw (e, f) Decodes.closed
