-- What `gabro_paint` writes: synchronized updates for the terminal.
use Rattle.std.specs.Prelude.{◌≡◌, ℕ, ◌≤◌, ◌<◌, List, length, false, Option, Some, None, Result, Ok, Err}
use Rattle.scm_view_state.specs.Styles.{plain}
use Rattle.scm_record.specs.Live.{Live}
use Rattle.scm_record.specs.Painted.{picture_of}
use Rattle.scm_open_session.specs.declared.open_session.OpenSession.{OpenSession}
use Rattle.scm_open_session.specs.declared.open_session.Stage.{Stage}
use Rattle.scm_open_session.specs.declared.open_session.Stage.TheVariants.{Waiting}
use Rattle.scm_open_session.specs.declared.painters.Painters.{Painters}
use Rattle.scm_open_session.specs.declared.running.Running.{Running}
use Rattle.scm_open_session.specs.declared.running.Running.TheVariants as running
use Rattle.scm_front_paint.specs.Below.{PaintsView}
use Rattle.scm_front_paint.specs.Seen.{Seen}
use Rattle.scm_open_session.specs.Painters.{Forget}
use Rattle.scm_open_session.specs.Stages.{is_waiting}
use Rattle.scm_c_values.specs.Buffers.{over}
use Rattle.scm_c_values.specs.Updates.{as_update, Shows}

-- The update shows a session without a layer, and its painter has the picture. All else of the painters stays.
pub record ShowsPlain (l : Live) (old new : Painters) (update : List ℕ) : Type 0 where
  pub shows : Shows l old.plain update
  pub painted : new.plain ≡ picture_of l
  pub layered : new.layered ≡ old.layered
  pub theme : new.theme ≡ old.theme
  pub accept : new.accept ≡ old.accept

-- With a layer the update is the paint of the view with its status row, synchronized.
pub record ShowsView (v : Seen) (old new : Painters) (update : List ℕ) : Type 0 where
  -- the bytes inside the update
  pub bytes : List ℕ
  -- on a terminal of the view's size that shows what the painter painted last, they show the view
  pub paints : PaintsView old.layered new.layered v old.accept bytes
  -- the update is these bytes, synchronized
  pub is : update ≡ as_update bytes
  -- all else of the painters stays
  pub plain : new.plain ≡ old.plain
  pub theme : new.theme ≡ old.theme
  pub accept : new.accept ≡ old.accept

-- The update shows a session that waits for an event.
abbrev pub ShowsRunning : Running → Painters → Painters → List ℕ → Type 0
ShowsRunning (running.Plain l) old new update = ShowsPlain l old new update
ShowsRunning (running.Layered v) old new update = ShowsView v old new update

-- An update at a stage, if it waits for an event. If an allocation failed: its code, and nothing counts as painted. If the stage waits
-- for no event: the code of that.
pub data UpdatesStage : Stage → Painters → Painters → Result (List ℕ) ℕ → Type 0 where
  shown : {s : Running} {old new : Painters} {update : List ℕ} → ShowsRunning s old new update → UpdatesStage (Waiting s) old new (Ok update)
  refused : {s : Running} {old new : Painters} → Forget old new → UpdatesStage (Waiting s) old new (Err 8)
  not_due : {stage : Stage} {painters : Painters} → is_waiting stage ≡ false → UpdatesStage stage painters painters (Err 2)

-- An update of an open session.
pub record Updates (old new : OpenSession) (result : Result (List ℕ) ℕ) : Type 0 where
  pub painter : UpdatesStage old.stage old.painter new.painter result
  pub stage : new.stage ≡ old.stage
  pub decoder : new.decoder ≡ old.decoder

-- An open session, where nothing counts as painted.
pub record ForgetsOpen (old new : OpenSession) : Type 0 where
  pub painter : Forget old.painter new.painter
  pub stage : new.stage ≡ old.stage
  pub decoder : new.decoder ≡ old.decoder

-- If the buffer has room for the update, it is written. If not, nothing is written, and nothing counts as painted.
pub data Fills (inner : OpenSession) : OpenSession → List ℕ → List ℕ → List ℕ → Type 0 where
  written : {update out : List ℕ} → length update ≤ length out → Fills inner inner update out (over update out)
  no_room : {new : OpenSession} {update out : List ℕ} → length out < length update → ForgetsOpen inner new → Fills inner new update out out

-- `gabro_paint` on an open session: the session, the buffer, and the length of the update or the code of the failure.
pub data PaintsOpenSession (old : OpenSession) : OpenSession → List ℕ → List ℕ → Result ℕ ℕ → Type 0 where
  painted : {inner new : OpenSession} {update out filled : List ℕ} → Updates old inner (Ok update)
      → Fills inner new update out filled → PaintsOpenSession old new out filled (Ok (length update))
  unpainted : {new : OpenSession} {out : List ℕ} {code : ℕ} → Updates old new (Err code) → PaintsOpenSession old new out out (Err code)

-- `gabro_paint` on a session: the session, the buffer, the code, and the length that it tells. A call that fails tells none.
pub data PaintsSession : Option OpenSession → Option OpenSession → List ℕ → List ℕ → ℕ → ℕ → ℕ → Type 0 where
  closed : {out : List ℕ} {told : ℕ} → PaintsSession None None out out 1 told told
  painted : {old new : OpenSession} {out filled : List ℕ} {told count : ℕ} → PaintsOpenSession old new out filled (Ok count)
      → PaintsSession (Some old) (Some new) out filled 0 told count
  unpainted : {old new : OpenSession} {out filled : List ℕ} {told code : ℕ} → PaintsOpenSession old new out filled (Err code)
      → PaintsSession (Some old) (Some new) out filled code told told

-- After `gabro_repaint` nothing counts as painted, so the next update has every row.
pub data Forgets : Option OpenSession → Option OpenSession → Type 0 where
  closed : Forgets None None
  open_one : {old new : OpenSession} → ForgetsOpen old new → Forgets (Some old) (Some new)
