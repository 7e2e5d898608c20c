-- What an event does with the files of a session, and which events it leaves pending.
use Rattle.std.proofs.Common.{◌≡◌, ℕ, ◌≤◌, Bool, true, false, cond, List, [], ◌∷◌, ◌++◌, refl, Option, Some, None, arith}
use Rattle.scm_types.specs.declared.file.File.{File}
use Rattle.scm_types.specs.declared.keys.SelectionKey.{SelectionKey}
use Rattle.scm_types.specs.declared.keys.SelectionKey.TheVariants as keys
use Rattle.scm_types.specs.Keys.{file_of, file_of_section}
use Rattle.scm_widgets.specs.declared.ids.QuitDialogButtonId.{QuitDialogButtonId}
use Rattle.scm_widgets.specs.declared.ids.QuitDialogButtonId.TheVariants.{Quit, GoBack}
use Rattle.scm_input.specs.declared.events.Event.{Event}
use Rattle.scm_input.specs.declared.events.Event.TheVariants as events
use Rattle.scm_selection.specs.KeyLists.{all_keys}
use Rattle.scm_selection.specs.KeySet.{is_same_set, key_set}
use Rattle.scm_selection.specs.Toggle.{with_all_inverted, with_all_set, with_key_toggled}
use Rattle.scm_record.specs.Change.{Change, accepts, cancels, stays}
use Rattle.scm_record.specs.Dialogs.{after_press, after_quit_request, button_of}
use Rattle.scm_record.specs.Frames.{Scene}
use Rattle.scm_record.specs.Messages.{after_edit_request, edit_if}
use Rattle.scm_record.specs.Session.{Session, after_expand, after_fold, after_inner, after_leaving, after_outer, after_select, after_toggle, message_of, with_all_flipped, with_dialog, with_ensure, with_help, with_pushed}
use Rattle.scm_record.specs.Step.{change}
use Rattle.scm_record.proofs.Budget.{rank}
use Rattle.scm_record.proofs.StepLemmas.{Pushes, leads, nothing, pushed}
use Rattle.scm_front_items.specs.Runs.{marks_of_files}
use Rattle.scm_front_items.proofs.PlaceLemmas.{shape}
use Rattle.scm_front_items.proofs.ShapeLemmas.{shape-inverted, shape-set}
use Rattle.scm_front.specs.declared.recording.Effect.{Effect}
use Rattle.scm_front.specs.declared.recording.Effect.TheVariants as effects
use Rattle.scm_front.specs.declared.recording.Reach.{Reach}
use Rattle.scm_front.specs.declared.recording.Reach.TheVariants.{Item, All}
use Rattle.scm_front.specs.Recording.{effect_of, may_mark, reach_by}

abbrev pub files_in : Session → List File
files_in s = s.shown.state.files

-- the event changes no mark
abbrev pub IsPlain : Event → Type 0
IsPlain event = may_mark (effect_of event) ≡ false

abbrev pub ArePlain : List Event → Type 0
ArePlain [] = Unit {0}
ArePlain (event ∷ rest) = IsPlain event × ArePlain rest

pub plain-append : (xs ys : List Event) → ArePlain xs → ArePlain ys → ArePlain (xs ++ ys)
plain-append [] ys h k = k
plain-append (x ∷ xs) ys h k = (h.0, plain-append xs ys h.1 k)

-- the event is no click
abbrev pub IsNoClick : Effect → Type 0
IsNoClick effects.Nothing = Unit {0}
IsNoClick effects.Item = Unit {0}
IsNoClick effects.All = Unit {0}
IsNoClick (effects.Click row column) = ⊥

-- ---- events by their ranks

low-plain : (event : Event) → rank event ≤ 0 → IsPlain event
low-plain events.None low = refl
low-plain events.QuitAccept low = refl
low-plain events.QuitCancel low = refl
low-plain events.QuitInterrupt low = refl
low-plain events.QuitEscape low = refl
low-plain (events.TakeScreenshot shot) low = refl
low-plain events.Redraw low = refl
low-plain events.EnsureSelectionInViewport low = refl
low-plain events.ScrollUp low = refl
low-plain events.ScrollDown low = refl
low-plain events.PageUp low = refl
low-plain events.PageDown low = refl
low-plain events.FocusPrev low = refl
low-plain events.FocusPrevSameKind low = refl
low-plain events.FocusPrevPage low = refl
low-plain events.FocusNext low = refl
low-plain events.FocusNextSameKind low = refl
low-plain events.FocusNextPage low = refl
low-plain events.FocusInner low = refl
low-plain (events.FocusOuter fold_section) low = refl
low-plain events.ExpandItem low = refl
low-plain events.ExpandAll low = refl
low-plain events.ToggleCommitViewMode low = refl
low-plain events.EditCommitMessage low = refl
low-plain events.Help low = refl
low-plain events.ToggleItem low = absurd (omega (arith, low))
low-plain events.ToggleItemAndAdvance low = absurd (omega (arith, low))
low-plain events.ToggleAll low = absurd (omega (arith, low))
low-plain events.ToggleAllUniform low = absurd (omega (arith, low))
low-plain (events.Click row column) low = absurd (omega (arith, low))

no-click-low : (event : Event) → IsNoClick (effect_of event) → rank event ≤ 1
no-click-low events.None n = omega arith
no-click-low events.QuitAccept n = omega arith
no-click-low events.QuitCancel n = omega arith
no-click-low events.QuitInterrupt n = omega arith
no-click-low events.QuitEscape n = omega arith
no-click-low (events.TakeScreenshot shot) n = omega arith
no-click-low events.Redraw n = omega arith
no-click-low events.EnsureSelectionInViewport n = omega arith
no-click-low events.ScrollUp n = omega arith
no-click-low events.ScrollDown n = omega arith
no-click-low events.PageUp n = omega arith
no-click-low events.PageDown n = omega arith
no-click-low events.FocusPrev n = omega arith
no-click-low events.FocusPrevSameKind n = omega arith
no-click-low events.FocusPrevPage n = omega arith
no-click-low events.FocusNext n = omega arith
no-click-low events.FocusNextSameKind n = omega arith
no-click-low events.FocusNextPage n = omega arith
no-click-low events.FocusInner n = omega arith
no-click-low (events.FocusOuter fold_section) n = omega arith
no-click-low events.ExpandItem n = omega arith
no-click-low events.ExpandAll n = omega arith
no-click-low events.ToggleCommitViewMode n = omega arith
no-click-low events.EditCommitMessage n = omega arith
no-click-low events.Help n = omega arith
no-click-low events.ToggleItem n = omega arith
no-click-low events.ToggleItemAndAdvance n = omega arith
no-click-low events.ToggleAll n = omega arith
no-click-low events.ToggleAllUniform n = omega arith
no-click-low (events.Click row column) n = absurd n

pub low-no-click : (event : Event) → rank event ≤ 1 → IsNoClick (effect_of event)
low-no-click events.None low = tt
low-no-click events.QuitAccept low = tt
low-no-click events.QuitCancel low = tt
low-no-click events.QuitInterrupt low = tt
low-no-click events.QuitEscape low = tt
low-no-click (events.TakeScreenshot shot) low = tt
low-no-click events.Redraw low = tt
low-no-click events.EnsureSelectionInViewport low = tt
low-no-click events.ScrollUp low = tt
low-no-click events.ScrollDown low = tt
low-no-click events.PageUp low = tt
low-no-click events.PageDown low = tt
low-no-click events.FocusPrev low = tt
low-no-click events.FocusPrevSameKind low = tt
low-no-click events.FocusPrevPage low = tt
low-no-click events.FocusNext low = tt
low-no-click events.FocusNextSameKind low = tt
low-no-click events.FocusNextPage low = tt
low-no-click events.FocusInner low = tt
low-no-click (events.FocusOuter fold_section) low = tt
low-no-click events.ExpandItem low = tt
low-no-click events.ExpandAll low = tt
low-no-click events.ToggleCommitViewMode low = tt
low-no-click events.EditCommitMessage low = tt
low-no-click events.Help low = tt
low-no-click events.ToggleItem low = tt
low-no-click events.ToggleItemAndAdvance low = tt
low-no-click events.ToggleAll low = tt
low-no-click events.ToggleAllUniform low = tt
low-no-click (events.Click row column) low = absurd (omega (arith, low))

pub click-is : (event : Event) (row column : ℕ) → effect_of event ≡ effects.Click row column → event ≡ events.Click row column
click-is events.None row column e = absurd (cc e)
click-is events.QuitAccept row column e = absurd (cc e)
click-is events.QuitCancel row column e = absurd (cc e)
click-is events.QuitInterrupt row column e = absurd (cc e)
click-is events.QuitEscape row column e = absurd (cc e)
click-is (events.TakeScreenshot shot) row column e = absurd (cc e)
click-is events.Redraw row column e = absurd (cc e)
click-is events.EnsureSelectionInViewport row column e = absurd (cc e)
click-is events.ScrollUp row column e = absurd (cc e)
click-is events.ScrollDown row column e = absurd (cc e)
click-is events.PageUp row column e = absurd (cc e)
click-is events.PageDown row column e = absurd (cc e)
click-is events.FocusPrev row column e = absurd (cc e)
click-is events.FocusPrevSameKind row column e = absurd (cc e)
click-is events.FocusPrevPage row column e = absurd (cc e)
click-is events.FocusNext row column e = absurd (cc e)
click-is events.FocusNextSameKind row column e = absurd (cc e)
click-is events.FocusNextPage row column e = absurd (cc e)
click-is events.FocusInner row column e = absurd (cc e)
click-is (events.FocusOuter fold_section) row column e = absurd (cc e)
click-is events.ExpandItem row column e = absurd (cc e)
click-is events.ExpandAll row column e = absurd (cc e)
click-is events.ToggleCommitViewMode row column e = absurd (cc e)
click-is events.EditCommitMessage row column e = absurd (cc e)
click-is events.Help row column e = absurd (cc e)
click-is events.ToggleItem row column e = absurd (cc e)
click-is events.ToggleItemAndAdvance row column e = absurd (cc e)
click-is events.ToggleAll row column e = absurd (cc e)
click-is events.ToggleAllUniform row column e = absurd (cc e)
click-is (events.Click r c) row column e = let first : r ≡ row = cc e in let second : c ≡ column = cc e in rw (first, second) refl

left-plain : (event : Event) (old new : List Event) → Pushes event old new → rank event ≤ 1 → ArePlain old → ArePlain new
left-plain event old _ nothing low h = h
left-plain event old _ (pushed next k) low h = plain-append old (next ∷ []) h (low-plain next (omega (arith, k, low)), tt)

-- an event that is no click leaves only events that change no mark
pub leaves-plain : (scene : Scene) (s : Session) (event : Event) → IsNoClick (effect_of event) → ArePlain s.pending → ArePlain (change scene s event).session.pending
leaves-plain scene s event n h = left-plain event s.pending _ (leads scene s event).pushes (no-click-low event n) h

-- ---- the files after a change

-- `new` are the files after an event within the reach
pub data After (files : List File) (reach : Reach) (new : List File) : Type 0 where
  as_was : new ≡ files → After files reach new
  by_item : (key : SelectionKey) → reach ≡ Item key → new ≡ with_key_toggled key files → After files reach new
  by_all : reach ≡ All → shape (marks_of_files new) ≡ shape (marks_of_files files) → After files reach new

module _ (s : Session) (r : Reach) where
  abbrev pub AfterIn : Change → Type 0
  AfterIn c = After (files_in s) r (files_in c.session)

  either : (b : Bool) (c d : Change) → AfterIn c → AfterIn d → AfterIn (cond b c d)
  either true c d h k = h
  either false c d h k = k

  either-session : (b : Bool) (t u : Session) → After (files_in s) r (files_in t) → After (files_in s) r (files_in u) → After (files_in s) r (files_in (cond b t u))
  either-session true t u h k = h
  either-session false t u h k = k

  same : After (files_in s) r (files_in s)
  same = as_was refl

  pub pressed : (button : QuitDialogButtonId) → AfterIn (after_press s button)
  pressed Quit = same
  pressed GoBack = same

  leaving : (fold_section : Bool) (key : SelectionKey) → After (files_in s) r (files_in (after_leaving s fold_section key))
  leaving fold_section keys.None = same
  leaving fold_section (keys.File key) = as_was refl
  leaving fold_section (keys.Section key) = either-session _ (after_fold s (keys.Section key)) (after_select s (keys.File (file_of_section key))) (as_was refl) (as_was refl)
  leaving fold_section (keys.Line key) = as_was refl

  pub edited : (commit : ℕ) (message : Option (List ℕ)) → AfterIn (edit_if commit (with_pushed s events.Redraw) message)
  edited commit None = as_was refl
  edited commit (Some text) = as_was refl

  quits : AfterIn (after_quit_request s)
  quits = either _ (cancels s) _ same (as_was refl)

  flipped : (b : Bool) → After (files_in s) r (files_in (with_ensure (cond b (record s { shown = record s.shown { selection = file_of s.shown.selection; expanded = [] } }) (record s { shown = record s.shown { expanded = key_set (all_keys s.shown.state.files) } }))))
  flipped true = as_was refl
  flipped false = as_was refl

  changed : (f : List File → List File) (b : Bool) → After (files_in s) r (f (files_in s))
      → After (files_in s) r (files_in (cond b s (record s { shown = record s.shown { state = record s.shown.state { files = f s.shown.state.files } } })))
  changed f true h = same
  changed f false h = h

-- each event but a click
pub after-event : (scene : Scene) (s : Session) (event : Event) → IsNoClick (effect_of event)
    → AfterIn s (reach_by s.shown.selection (effect_of event)) (change scene s event)
after-event scene s events.None n = same s _
after-event scene s events.QuitAccept n = either s _ _ (stays s) _ (same s _) (either s _ _ (stays (with_help s false)) (accepts s) (as_was refl) (same s _))
after-event scene s events.QuitCancel n = either s _ _ (stays (with_help s false)) _ (as_was refl) (either s _ _ (stays (with_dialog s None)) (after_quit_request s) (as_was refl) (quits s _))
after-event scene s events.QuitInterrupt n = either s _ _ (cancels s) (after_quit_request s) (same s _) (quits s _)
after-event scene s events.QuitEscape n = either s _ _ (stays (with_help s false)) (stays (with_dialog s None)) (as_was refl) (as_was refl)
after-event scene s (events.TakeScreenshot shot) n = same s _
after-event scene s events.Redraw n = as_was refl
after-event scene s events.EnsureSelectionInViewport n = as_was refl
after-event scene s events.ScrollUp n = either s _ _ (stays s) _ (same s _) (as_was refl)
after-event scene s events.ScrollDown n = either s _ _ (stays s) _ (same s _) (as_was refl)
after-event scene s events.PageUp n = either s _ _ (stays s) _ (same s _) (as_was refl)
after-event scene s events.PageDown n = either s _ _ (stays s) _ (same s _) (as_was refl)
after-event scene s events.FocusPrev n = either s _ _ (stays s) _ (same s _) (as_was refl)
after-event scene s events.FocusPrevSameKind n = either s _ _ (stays s) _ (same s _) (as_was refl)
after-event scene s events.FocusPrevPage n = either s _ _ (stays s) _ (same s _) (as_was refl)
after-event scene s events.FocusNext n = either s _ _ (stays s) _ (same s _) (as_was refl)
after-event scene s events.FocusNextSameKind n = either s _ _ (stays s) _ (same s _) (as_was refl)
after-event scene s events.FocusNextPage n = either s _ _ (stays s) _ (same s _) (as_was refl)
after-event scene s events.FocusInner n = either s _ _ _ (stays (after_inner s)) (as_was refl) (as_was refl)
after-event scene s (events.FocusOuter fold_section) n = either s _ _ _ (stays (after_outer s fold_section)) (as_was refl) (leaving s _ fold_section s.shown.selection)
after-event scene s events.ExpandItem n = either s _ _ (stays s) (stays (after_expand s)) (same s _) (as_was refl)
after-event scene s events.ExpandAll n = either s _ _ (stays s) (stays (with_ensure (with_all_flipped s))) (same s _) (flipped s _ (is_same_set s.shown.expanded (key_set (all_keys s.shown.state.files))))
after-event scene s events.ToggleCommitViewMode n = as_was refl
after-event scene s events.EditCommitMessage n = either s _ _ (stays s) (after_edit_request s 0) (same s _) (edited s _ 0 (message_of s 0))
after-event scene s events.Help n = as_was refl
after-event scene s events.ToggleItem n = either s _ _ (stays (with_help s false)) _ (as_was refl) (either s _ _ (after_press s (button_of s.shown.quit_dialog)) (stays (after_toggle s)) (pressed s _ (button_of s.shown.quit_dialog))
    (changed s _ (with_key_toggled s.shown.selection) s.shown.state.is_read_only (by_item s.shown.selection refl refl)))
after-event scene s events.ToggleItemAndAdvance n = either s _ _ (stays (with_help s false)) _ (as_was refl) (either s _ _ (after_press s (button_of s.shown.quit_dialog)) _ (pressed s _ (button_of s.shown.quit_dialog))
    (changed s _ (with_key_toggled s.shown.selection) s.shown.state.is_read_only (by_item s.shown.selection refl refl)))
after-event scene s events.ToggleAll n = either s _ _ (stays s) _ (same s _) (changed s _ with_all_inverted s.shown.state.is_read_only (by_all refl (shape-inverted s.shown.state.files)))
after-event scene s events.ToggleAllUniform n = either s _ _ (stays s) _ (same s _) (changed s _ with_all_set s.shown.state.is_read_only (by_all refl (shape-set s.shown.state.files)))
after-event scene s (events.Click row column) n = absurd n
