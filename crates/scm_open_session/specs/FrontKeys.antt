-- Typing up to the first key that the key table lacks.
use Rattle.std.specs.Prelude.{◌≡◌, ℕ, not, Bool, false, List, length, take, Option, Some, if◌then◌else◌}
use Rattle.scm_input.specs.declared.terminal.KeyCode.TheVariants as key
use Rattle.scm_open_session.specs.declared.open_session.OpenSession.{OpenSession}
use Rattle.scm_open_session.specs.declared.open_session.Stage.{Stage}
use Rattle.scm_open_session.specs.declared.open_session.Stage.TheVariants.{Building, Waiting, Editing, Accepted, Ended}
use Rattle.scm_open_session.specs.Running.{is_asking}
use Rattle.scm_open_session.specs.Stages.{Types, is_waiting}
use Rattle.scm_c_values.specs.KeyCodes.{StopsAt}

-- ---- typing up to a key

-- Whether a session at this stage tells a front end of its keys: it waits for an event, and its layer asks for no text.
abbrev pub tells_keys : Stage → Bool
tells_keys (Building state) = false
tells_keys (Waiting s) = not (is_asking s)
tells_keys (Editing a) = false
tells_keys (Accepted state) = false
tells_keys (Ended error) = false

-- The bytes up to the first key for a front end are typed. If the session still waits for an event, the caller is told how many
-- they are, and the key: unless the layer asks for a text, which hears all keys. If the session waits for no event, the other bytes are
-- dropped, as they were typed at another screen.
pub record TypesToKey (bytes : List ℕ) (old new : OpenSession) (taken key : ℕ) : Type 0 where
  -- the bytes that are typed, and the key
  pub sent : ℕ
  pub found : ℕ
  pub stops : StopsAt old.decoder bytes sent found
  pub types : Types (take sent bytes) old.decoder new.decoder old.stage new.stage
  pub same_painter : new.painter ≡ old.painter
  -- what the caller is told
  pub taken_told : taken ≡ (if is_waiting new.stage then sent else length bytes)
  pub key_told : key ≡ (if tells_keys new.stage then found else 0)

-- An open session changes by `TypesToKey`.
pub data ChangesToKey (bytes : List ℕ) : Option OpenSession → Option OpenSession → ℕ → ℕ → Type 0 where
  changes_to_key : {old new : OpenSession} {taken key : ℕ} → TypesToKey bytes old new taken key
      → ChangesToKey bytes (Some old) (Some new) taken key
