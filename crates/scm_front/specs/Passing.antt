-- What the layer says of an event that it hands in.
use Rattle.std.specs.Prelude.{Bool, not, ◌&&◌, is_some, if◌then◌else◌}
use Rattle.scm_input.specs.declared.events.Event.{Event}
use Rattle.scm_input.specs.declared.events.Event.TheVariants as events
use Rattle.scm_record.specs.Live.{Live}
use Rattle.scm_record.specs.Session.{message_of}
use Rattle.scm_front.specs.Clicking.{item_at}
use Rattle.scm_front.specs.Keeping.{is_none}
use Rattle.scm_front.specs.declared.kept.Notice.{Notice}
use Rattle.scm_front.specs.declared.kept.Notice.TheVariants.{Nothing, NoMessage, Pressed}

-- whether a request to edit a message does nothing for want of one: the quit dialog, which ignores the request, is closed, and the first
-- commit has no message
abbrev pub lacks_message : Live → Bool
lacks_message l = not (is_some l.session.shown.quit_dialog) && not (is_some (message_of l.session 0))

-- What the layer says after an event: of a request to edit a message where there is none, that there is none; nothing otherwise. It keeps
-- whether a click hit an item, since a drag may begin there.
abbrev pub word_after : Live → Event → Notice
word_after l events.EditCommitMessage = if lacks_message l then NoMessage else Nothing
word_after l events.None = Nothing
word_after l events.QuitAccept = Nothing
word_after l events.QuitCancel = Nothing
word_after l events.QuitInterrupt = Nothing
word_after l events.QuitEscape = Nothing
word_after l (events.TakeScreenshot shot) = Nothing
word_after l events.Redraw = Nothing
word_after l events.EnsureSelectionInViewport = Nothing
word_after l events.ScrollUp = Nothing
word_after l events.ScrollDown = Nothing
word_after l events.PageUp = Nothing
word_after l events.PageDown = Nothing
word_after l events.FocusPrev = Nothing
word_after l events.FocusPrevSameKind = Nothing
word_after l events.FocusPrevPage = Nothing
word_after l events.FocusNext = Nothing
word_after l events.FocusNextSameKind = Nothing
word_after l events.FocusNextPage = Nothing
word_after l events.FocusInner = Nothing
word_after l (events.FocusOuter fold_section) = Nothing
word_after l events.ToggleItem = Nothing
word_after l events.ToggleItemAndAdvance = Nothing
word_after l events.ToggleAll = Nothing
word_after l events.ToggleAllUniform = Nothing
word_after l events.ExpandItem = Nothing
word_after l events.ExpandAll = Nothing
word_after l (events.Click row column) = if is_none (item_at l row column) then Nothing else Pressed
word_after l events.ToggleCommitViewMode = Nothing
word_after l events.Help = Nothing
