-- How a run ends, from the points that it reaches.
use Rattle.std.proofs.Common.{◌≡◌, ℕ, refl}
use Rattle.scm_errors.specs.declared.error.RecordError.{RecordError}
use Rattle.scm_errors.specs.declared.error.RecordError.TheVariants.{OutOfMemory}
use Rattle.scm_record.specs.Session.{Session}
use Rattle.scm_input.specs.Store.{counted}
use Rattle.scm_record.specs.Run.{Setting, world_in, Before, Accepted, Reaches, Stops}
use Rattle.scm_record.specs.Ending.{EndsWith, FailsWith}
use Rattle.scm_record.proofs.BudgetLemmas.{few-reached, few-stopped}
use Rattle.scm_record.proofs.RunLemmas.{undrawn-stops}

module _ (s last : Session) (old new : Setting) (n : ℕ) (count : new.store.frames ≡ counted n old.store.frames) where
  pub ends-with : Reaches (Before (world_in old s 0)) (Accepted (world_in new last n)) → EndsWith s old new last.shown.state
  ends-with r = record {
    last = last;
    frames = n;
    reached = r;
    returned = refl;
    counted = count;
    few = λ h. few-reached (world_in old s 0) (Accepted (world_in new last n)) refl h r;
  }

  pub fails-with : (error : RecordError) → Stops error (Before (world_in old s 0)) (world_in new last n) → FailsWith s old new error
  fails-with error r = record {
    last = last;
    frames = n;
    stopped = r;
    counted = count;
    few = λ h. few-stopped error (world_in old s 0) (world_in new last n) refl h r;
  }

-- no memory for the first frame
pub undrawn-fails : (error : RecordError) (s : Session) (old : Setting) → error ≡ OutOfMemory → FailsWith s old old error
undrawn-fails error s old e = fails-with s s old old 0 refl error (undrawn-stops error old s s old.store 0 e refl)
