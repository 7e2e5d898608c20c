-- How calls change a session.
use Rattle.std.proofs.Common.{◌≡◌, ℕ, List, Option, Some, None, Result, Ok, Err, IfOk, IfErr, sym, ap, ◌∙◌, subst}
use Rattle.scm_errors.specs.declared.error.RecordError.{RecordError}
use Rattle.scm_input.specs.declared.events.Event.{Event}
use Rattle.scm_input.specs.declared.inputs.TerminalKind.{TerminalKind}
use Rattle.scm_record.specs.Live.{Live, LiveEdit, on_screen}
use Rattle.scm_record.specs.LiveCalls.{EventLeads, MessageLeads, EventFails, MessageFails}
use Rattle.scm_terminal.specs.declared.decoder.Decoder.{Decoder}
use Rattle.scm_record.specs.Typed.{BytesLead, BytesFail, SilenceLeads, SilenceFails}
use Rattle.scm_record.specs.declared.live.Turn.{Turn}
use Rattle.scm_front_paint.specs.declared.view.ViewTurn.{ViewTurn}
use Rattle.scm_front_paint.specs.Seen.{Seen, SeenEditing}
use Rattle.scm_front_paint.specs.Views.{ViewBytes, ViewBytesFail, ViewSilenceFails, ViewSayFails, ViewSays, ViewSilence}
use Rattle.scm_open_session.specs.Layered.{OrRefused, ViewPresses, ViewResizes}
use Rattle.scm_open_session.specs.declared.open_session.OpenSession.{OpenSession}
use Rattle.scm_open_session.specs.declared.open_session.Stage.{Stage}
use Rattle.scm_open_session.specs.declared.open_session.Stage.TheVariants.{Waiting, Editing}
use Rattle.scm_open_session.specs.declared.running.MessageEdit.{MessageEdit}
use Rattle.scm_open_session.specs.declared.running.MessageEdit.TheVariants as edits
use Rattle.scm_open_session.specs.declared.running.Running.{Running}
use Rattle.scm_open_session.specs.declared.running.Running.TheVariants as running
use Rattle.scm_open_session.specs.Stages.{Presses, Says, Resizes, Types, Idles, ChangesStage, HandsIn, IsOpenAt, ChangesDecoder, changes_stage, changes_decoder, open_at, stage_after, stage_of_view}
use Rattle.scm_open_session.specs.FrontKeys.{ChangesToKey, TypesToKey}

presses-by : (event : Event) (l : Live) (r : Result Turn RecordError) → IfOk r (λ turn. EventLeads l event turn) → IfErr r (λ e. EventFails l event e)
    → Presses event (Waiting (running.Plain l)) (stage_after r)
presses-by event l (Ok turn) h k = Presses.turned turn h
presses-by event l (Err error) h k = Presses.failed k

pub presses : (event : Event) (l : Live) (r : Result Turn RecordError) (s : Running) (new : Stage) → s ≡ running.Plain l → new ≡ stage_after r
    → IfOk r (λ turn. EventLeads l event turn) → IfErr r (λ e. EventFails l event e) → Presses event (Waiting s) new
presses event l r s new e f h k = rw (e, f) (presses-by event l r h k)

view-presses-by : (event : Event) (v : Seen) (r : Result ViewTurn RecordError) → IfOk r (λ turn. ViewPresses v event turn)
    → IfErr r (λ e. OrRefused (EventFails v.front.beneath event) e) → Presses event (Waiting (running.Layered v)) (stage_of_view r)
view-presses-by event v (Ok turn) h k = Presses.layer_turned turn h
view-presses-by event v (Err error) h k = Presses.layer_failed k

pub view-presses : (event : Event) (v : Seen) (r : Result ViewTurn RecordError) (s : Running) (new : Stage) → s ≡ running.Layered v → new ≡ stage_of_view r
    → IfOk r (λ turn. ViewPresses v event turn) → IfErr r (λ e. OrRefused (EventFails v.front.beneath event) e) → Presses event (Waiting s) new
view-presses event v r s new e f h k = rw (e, f) (view-presses-by event v r h k)

says-by : (text : List ℕ) (a : LiveEdit) (r : Result Turn RecordError) → IfOk r (λ turn. MessageLeads a text turn) → IfErr r (λ e. MessageFails a text e)
    → Says text (Editing (edits.Plain a)) (stage_after r)
says-by text a (Ok turn) h k = Says.turned turn h
says-by text a (Err error) h k = Says.failed k

pub says : (text : List ℕ) (a : LiveEdit) (r : Result Turn RecordError) (s : MessageEdit) (new : Stage) → s ≡ edits.Plain a → new ≡ stage_after r
    → IfOk r (λ turn. MessageLeads a text turn) → IfErr r (λ e. MessageFails a text e) → Says text (Editing s) new
says text a r s new e f h k = rw (e, f) (says-by text a r h k)

view-says-by : (text : List ℕ) (v : SeenEditing) (r : Result ViewTurn RecordError) → IfOk r (λ turn. ViewSays v text turn) → IfErr r (λ e. ViewSayFails v text e)
    → Says text (Editing (edits.Layered v)) (stage_of_view r)
view-says-by text v (Ok turn) h k = Says.layer_turned turn h
view-says-by text v (Err error) h k = Says.layer_failed k

pub view-says : (text : List ℕ) (v : SeenEditing) (r : Result ViewTurn RecordError) (s : MessageEdit) (new : Stage) → s ≡ edits.Layered v → new ≡ stage_of_view r
    → IfOk r (λ turn. ViewSays v text turn) → IfErr r (λ e. ViewSayFails v text e) → Says text (Editing s) new
view-says text v r s new e f h k = rw (e, f) (view-says-by text v r h k)

pub resizes : (kind : TerminalKind) (l m : Live) (old new : Running) → old ≡ running.Plain l → new ≡ running.Plain m → m ≡ on_screen l kind
    → Resizes kind (Waiting old) (Waiting new)
resizes kind l m old new e f g =
    rw (e, f) (subst (λ (x : Live). Resizes kind (Waiting (running.Plain l)) (Waiting (running.Plain x))) (sym g) Resizes.resized)

pub view-resizes : (kind : TerminalKind) (v next : Seen) (old new : Running) → old ≡ running.Layered v → new ≡ running.Layered next → ViewResizes kind v next
    → Resizes kind (Waiting old) (Waiting new)
view-resizes kind v next old new e f g = rw (e, f) (Resizes.layer_resized g)

types-by : (bytes : List ℕ) (d e : Decoder) (l : Live) (r : Result Turn RecordError)
    → IfOk r (λ turn. BytesLead l d e bytes turn) → IfErr r (λ x. BytesFail l d e bytes x) → Types bytes d e (Waiting (running.Plain l)) (stage_after r)
types-by bytes d e l (Ok turn) h k = Types.turned turn h
types-by bytes d e l (Err error) h k = Types.failed k

pub types : (bytes : List ℕ) (d e : Decoder) (l : Live) (r : Result Turn RecordError) (s : Running) (new : Stage)
    → s ≡ running.Plain l → new ≡ stage_after r
    → IfOk r (λ turn. BytesLead l d e bytes turn) → IfErr r (λ x. BytesFail l d e bytes x) → Types bytes d e (Waiting s) new
types bytes d e l r s new f g h k = rw (f, g) (types-by bytes d e l r h k)

view-types-by : (bytes : List ℕ) (c d : Decoder) (v : Seen) (r : Result ViewTurn RecordError)
    → IfOk r (λ turn. ViewBytes v c d bytes turn) → IfErr r (λ e. ViewBytesFail v c d bytes e) → Types bytes c d (Waiting (running.Layered v)) (stage_of_view r)
view-types-by bytes c d v (Ok turn) h k = Types.layer_turned turn h
view-types-by bytes c d v (Err error) h k = Types.layer_failed k

pub view-types : (bytes : List ℕ) (c d : Decoder) (v : Seen) (r : Result ViewTurn RecordError) (s : Running) (new : Stage)
    → s ≡ running.Layered v → new ≡ stage_of_view r
    → IfOk r (λ turn. ViewBytes v c d bytes turn) → IfErr r (λ e. ViewBytesFail v c d bytes e) → Types bytes c d (Waiting s) new
view-types bytes c d v r s new f g h k = rw (f, g) (view-types-by bytes c d v r h k)

idles-by : (d e : Decoder) (l : Live) (r : Result Turn RecordError)
    → IfOk r (λ turn. SilenceLeads l d e turn) → IfErr r (λ x. SilenceFails l d e x) → Idles d e (Waiting (running.Plain l)) (stage_after r)
idles-by d e l (Ok turn) h k = Idles.turned turn h
idles-by d e l (Err error) h k = Idles.failed k

pub idles : (d e : Decoder) (l : Live) (r : Result Turn RecordError) (s : Running) (new : Stage)
    → s ≡ running.Plain l → new ≡ stage_after r
    → IfOk r (λ turn. SilenceLeads l d e turn) → IfErr r (λ x. SilenceFails l d e x) → Idles d e (Waiting s) new
idles d e l r s new f g h k = rw (f, g) (idles-by d e l r h k)

view-idles-by : (c d : Decoder) (v : Seen) (r : Result ViewTurn RecordError)
    → IfOk r (λ turn. ViewSilence v c d turn) → IfErr r (λ e. ViewSilenceFails v c d e) → Idles c d (Waiting (running.Layered v)) (stage_of_view r)
view-idles-by c d v (Ok turn) h k = Idles.layer_turned turn h
view-idles-by c d v (Err error) h k = Idles.layer_failed k

pub view-idles : (c d : Decoder) (v : Seen) (r : Result ViewTurn RecordError) (s : Running) (new : Stage)
    → s ≡ running.Layered v → new ≡ stage_of_view r
    → IfOk r (λ turn. ViewSilence v c d turn) → IfErr r (λ e. ViewSilenceFails v c d e) → Idles c d (Waiting s) new
view-idles c d v r s new f g h k = rw (f, g) (view-idles-by c d v r h k)

-- the stage of a session changes as that of the value that it owns
pub stage-changes : (Goes : Stage → Stage → Type 0) (old new : Option OpenSession) (h before k : OpenSession)
    → old ≡ Some h → before ≡ h → new ≡ Some k
    → Goes before.stage k.stage → k.decoder ≡ before.decoder → k.painter ≡ before.painter → ChangesStage Goes old new
stage-changes Goes old new h before k e f g goes d p =
    rw (e, g) (changes_stage (subst (λ (x : OpenSession). Goes x.stage k.stage) f goes) (d ∙ ap (λ (x : OpenSession). x.decoder) f) (p ∙ ap (λ (x : OpenSession). x.painter) f))

pub decoder-changes : (Goes : Decoder → Decoder → Stage → Stage → Type 0) (old new : Option OpenSession) (h before k : OpenSession)
    → old ≡ Some h → before ≡ h → new ≡ Some k
    → Goes before.decoder k.decoder before.stage k.stage → k.painter ≡ before.painter → ChangesDecoder Goes old new
decoder-changes Goes old new h before k e f g goes p =
    rw (e, g) (changes_decoder (subst (λ (x : OpenSession). Goes x.decoder k.decoder x.stage k.stage) f goes) (p ∙ ap (λ (x : OpenSession). x.painter) f))

pub hands-in : (event : Event) (given : Option Event) (old new : Option OpenSession)
    → given ≡ Some event → ChangesStage (Presses event) old new → HandsIn given old new
hands-in event given old new e goes = rw e goes

pub opens-at : (Is : OpenSession → Type 0) (new : Option OpenSession) (h : OpenSession) → new ≡ Some h → Is h → IsOpenAt Is new
opens-at Is new h e s = rw e (open_at s)

pub typed_to_key : (bytes : List ℕ) (old : Option OpenSession) (h before k : OpenSession) (taken key : ℕ) → old ≡ Some h → before ≡ h
    → TypesToKey bytes before k taken key → ChangesToKey bytes old (Some k) taken key
typed_to_key bytes old h before k taken key e f types =
    rw e (ChangesToKey.changes_to_key (subst (λ (x : OpenSession). TypesToKey bytes x k taken key) f types))
