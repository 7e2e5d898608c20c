-- Quiet turns: the frame of such a turn is seen by nobody, so the code counts it and paints nothing.
use Rattle.std.specs.Prelude.{◌≡◌, true, [], ◌∷◌, length}
use Rattle.scm_view.specs.Frame.{is_plain}
use Rattle.scm_input.specs.declared.inputs.TerminalKind.{TerminalKind}
use Rattle.scm_input.specs.declared.events.Event.TheVariants as events
use Rattle.scm_record.specs.declared.frame.DrawnFrame.{DrawnFrame}
use Rattle.scm_record.specs.Session.{Session, with_scroll, without_pending}
use Rattle.scm_record.specs.Frames.{scene_of}
use Rattle.scm_record.specs.FrameQueries.{scroll_to_show}

-- the next turn of the session `s` is quiet, on a screen of the size of `frame`: only the selection is to be shown, after a plain frame
pub record IsQuiet (s : Session) (frame : DrawnFrame) : Type 0 where
  -- `EnsureSelectionInViewport` alone is pending
  pub pending : s.pending ≡ events.EnsureSelectionInViewport ∷ []
  -- the next frame is plain
  pub plain : is_plain frame.grid.width (length frame.grid.rows) s.shown.view_mode ≡ true

-- the session `s`, as it was drawn on the screen `kind`, after `EnsureSelectionInViewport` alone
abbrev pub after_ensure : TerminalKind → Session → Session
after_ensure kind s = with_scroll (without_pending s) (scroll_to_show (scene_of kind s) s.scroll s.shown.selection)
