-- The headline, of a run that is accepted and of one that fails.
use Rattle.std.proofs.Common.{◌≡◌, ◌∙◌, refl, subst}
use Rattle.std.specs.Prelude.{Result, Ok, Err}
use Rattle.scm_errors.specs.declared.error.RecordError.{RecordError}
use Rattle.scm_types.specs.declared.state.RecordState.{RecordState}
use Rattle.scm_record.specs.Session.{Session, IsDrawable}
use Rattle.scm_record.specs.Change.{accepts}
use Rattle.scm_record.specs.Run.{Setting, world_in, Before, Accepted, Reaches, Stops}
use Rattle.scm_record.specs.Headline.{StoreHasShots, ConfirmsQuit, AcceptsConfirmedQuits, KeepsAllElse, Headline}
use Rattle.scm_record.specs.Ending.{EndsWith, FailsWith}
use Rattle.scm_record.proofs.BatchLemmas.{batches-are-handled, batches-begin-as-drawn}
use Rattle.scm_record.proofs.QuitLemmas.{accepted-confirmed, failed-unconfirmed}
use Rattle.scm_record.proofs.ShotLemmas.{shots-are-windows, clicks-hit-owners, reached-stores, stopped-stores}

module _ (s : Session) (a b : Setting) (drawable : IsDrawable s) where
  of-result : (result : Result RecordState RecordError) → StoreHasShots (Before (world_in a s 0)) a.store b.store → AcceptsConfirmedQuits (Before (world_in a s 0)) result → KeepsAllElse s result → Headline s a b result
  of-result result stored accepts keeps = record {
    handled = batches-are-handled (world_in a s 0);
    shots = shots-are-windows (world_in a s 0);
    stored = stored;
    begun = batches-begin-as-drawn (Before (world_in a s 0));
    clicks = clicks-hit-owners (world_in a s 0) drawable;
    accepts = accepts;
    keeps = keeps;
  }

  -- of a run that is accepted
  pub headline-ok : (s' : Session) (state state' : RecordState) → s' ≡ s → state' ≡ state → EndsWith s' a b state' → KeepsAllElse s (Ok state) → Headline s a b (Ok state)
  headline-ok s' state state' e k ends keeps =
      let w = world_in b ends.last ends.frames in
      let reached = subst (λ (x : Session). Reaches (Before (world_in a x 0)) (Accepted w)) e ends.reached in
      let confirmed = subst (λ (x : RecordState). ConfirmsQuit (Before (world_in a s 0)) x) (ends.returned ∙ k) (accepted-confirmed (world_in a s 0) w reached) in
      of-result (Ok state) (reached-stores s a b w reached refl) (confirmed, tt) keeps

  -- and of one that fails
  pub headline-err : (s' : Session) (error : RecordError) → s' ≡ s → FailsWith s' a b error → Headline s a b (Err error)
  headline-err s' error e fails =
      let w = world_in b fails.last fails.frames in
      let stopped = subst (λ (x : Session). Stops error (Before (world_in a x 0)) w) e fails.stopped in
      of-result (Err error) (stopped-stores s a b error w stopped refl) (tt, failed-unconfirmed error (Before (world_in a s 0)) w stopped) tt
