-- The end of a run: accepted with a state, or failed with an error.
use Rattle.std.specs.Prelude.{◌≡◌, ℕ, ◌+◌, ◌*◌, ◌≤◌, List, [], length}
use Rattle.scm_errors.specs.declared.error.RecordError.{RecordError}
use Rattle.scm_types.specs.declared.state.RecordState.{RecordState}
use Rattle.scm_input.specs.Script.{Read}
use Rattle.scm_input.specs.Store.{Store, counted}
use Rattle.scm_record.specs.Session.{Session}
use Rattle.scm_record.specs.Run.{Setting, world_in, Before, Accepted, Reaches, Stops}

-- the store `new` counts `frames` more than `old`
abbrev pub Counts : ℕ → Store → Store → Type 0
Counts frames old new = new.frames ≡ counted frames old.frames

-- at most 3 b + 1 frames were drawn, if b reads of `old` were taken and `left` remain
abbrev pub IsFew : ℕ → List Read → List Read → Type 0
IsFew frames old left = frames + 3 * length left ≤ 3 * length old + 1

-- the run of `s` in the setting `old` is accepted with `state`, and leaves the setting `new`
pub record EndsWith (s : Session) (old new : Setting) (state : RecordState) : Type 0 where
  -- the session at the end
  pub last : Session
  -- how many frames were drawn
  pub frames : ℕ
  -- the steps lead to the accepted end
  pub reached : Reaches (Before (world_in old s 0)) (Accepted (world_in new last frames))
  -- the state is that session's
  pub returned : last.shown.state ≡ state
  -- the store counts the frames
  pub counted : Counts frames old.store new.store
  -- few frames per read, if no event was pending at the start
  pub few : s.pending ≡ [] → IsFew frames old.reads new.reads

-- the run of `s` in the setting `old` ends with `error`, and leaves the setting `new`
pub record FailsWith (s : Session) (old new : Setting) (error : RecordError) : Type 0 where
  -- the session at the end
  pub last : Session
  -- how many frames were drawn
  pub frames : ℕ
  -- the error ends the run there
  pub stopped : Stops error (Before (world_in old s 0)) (world_in new last frames)
  -- the store counts the frames
  pub counted : Counts frames old.store new.store
  -- few frames per read, if no event was pending at the start
  pub few : s.pending ≡ [] → IsFew frames old.reads new.reads
