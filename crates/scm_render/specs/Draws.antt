-- The effect of a draw call on a viewport.
use Rattle.std.specs.Prelude.{◌≡◌, Result, OnOk, IfErr}
use Rattle.scm_errors.specs.declared.error.RecordError.{RecordError}
use Rattle.scm_errors.specs.declared.error.RecordError.TheVariants.{OutOfMemory}
use Rattle.scm_cells.specs.Counts.{Counts, added}
use Rattle.scm_render.specs.Picture.{Picture, PictureInRange}
use Rattle.scm_render.specs.Canvas.{Sight, ViewportState, with_picture}

-- A function that returned `result` has drawn the picture and added the counts, unless an allocation failed. The part of the
-- document on the screen is unchanged in any case.
pub record Draws {K A : Type 0} (before after : ViewportState K) (result : Result A RecordError)
    (picture : Picture K) (more : Counts) : Type 0 where
  pub ok : OnOk result (after.canvas ≡ with_picture before.canvas picture)
  pub counts : OnOk result (after.counts ≡ added before.counts more)
  pub rect : after.canvas.sight.rect ≡ before.canvas.sight.rect
  pub err : IfErr result (λ e. e ≡ OutOfMemory)

-- A draw call: the picture that it adds to a canvas and its counts, both by what is in sight.
pub record DrawCall (K : Type 0) : Type 0 where
  -- the puts, covers and boxes that it adds
  pub picture : Sight → Picture K
  -- the rows and calls that it counts
  pub counts : Sight → Counts

-- The call's picture is in range on the canvas of `viewport`.
abbrev pub CanDraw : {K : Type 0} → ViewportState K → DrawCall K → Type 0
CanDraw viewport call = PictureInRange (call.picture viewport.canvas.sight)

-- A function that returned `result` has made the call, unless an allocation failed.
abbrev pub HasDrawn : {K A : Type 0} → ViewportState K → ViewportState K → Result A RecordError → DrawCall K → Type 0
HasDrawn before after result call =
    Draws before after result (call.picture before.canvas.sight) (call.counts before.canvas.sight)
