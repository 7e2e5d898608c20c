-- The folds and the selection at the start: nothing else of the session changes.
use Rattle.std.specs.Prelude.{◌≡◌, Bool, true, false, ◌||◌, List, [], ◌∷◌, ◌++◌, length, nat_eq, nat_lt, is_some, if◌then◌else◌}
use Rattle.std.specs.List.{All}
use Rattle.scm_types.specs.declared.keys.SelectionKey.{SelectionKey}
use Rattle.scm_view.specs.ViewState.{ViewState}
use Rattle.scm_selection.specs.KeyLists.{all_keys}
use Rattle.scm_selection.specs.KeySet.{key_set}
use Rattle.scm_input.specs.declared.events.Event.{Event}
use Rattle.scm_input.specs.declared.events.Event.TheVariants.{ExpandAll}
use Rattle.scm_record.specs.Live.{Live}
use Rattle.scm_record.specs.Frames.{scene_of}
use Rattle.scm_record.specs.Jumps.{after_selecting}
use Rattle.scm_record.specs.LiveCalls.{Call}
use Rattle.scm_record.specs.declared.live.Turn.{Turn}
use Rattle.scm_record.specs.declared.live.Turn.TheVariants.{Waiting, Editing, Accepted}
use Rattle.scm_front_items.specs.declared.targets.Deed.{Deed}
use Rattle.scm_front_items.specs.declared.targets.Deed.TheVariants.{Mark}
use Rattle.scm_front_items.specs.declared.targets.Target.{Target}
use Rattle.scm_front_items.specs.Plans.{file_folds, section_folds}
use Rattle.scm_front.specs.Deeds.{RoundLeads}
use Rattle.scm_front.specs.declared.starting.Folds.{Folds}
use Rattle.scm_front.specs.declared.starting.Folds.TheVariants.{AsIs, Folded, Open, Fitting}

-- Only the selection, the folds and the scroll may differ: the state with its marks and messages, the dialogs, the menu and the size of the
-- screen are the same.
pub record IsRefolded (old new : Live) : Type 0 where
  pub kind : new.kind ≡ old.kind
  pub shown : new.session.shown
      ≡ record old.session.shown { selection = new.session.shown.selection; expanded = new.session.shown.expanded }

-- the session waits for an event, and is refolded
abbrev pub Refolds : Live → Turn → Type 0
Refolds l (Waiting next) = IsRefolded l next
Refolds l (Editing a) = ⊥
Refolds l (Accepted state) = ⊥

-- the keys that are unfolded after all are unfolded, if `is_open`, and otherwise after all are folded; an open quit dialog lets no fold change
abbrev pub unfolded_keys : Bool → ViewState → List SelectionKey
unfolded_keys is_open view =
    if is_some view.quit_dialog then view.expanded
    else if is_open then key_set (all_keys view.state.files)
    else []

-- the events that do so, where `is_all` says whether all are unfolded before: each folds all if all are unfolded, and otherwise unfolds all
abbrev pub fold_events : Bool → Bool → List Event
fold_events true true = []
fold_events true false = ExpandAll ∷ []
fold_events false true = ExpandAll ∷ []
fold_events false false = ExpandAll ∷ (ExpandAll ∷ [])

-- the session waits for an event, with all unfolded, or all folded
abbrev pub Unfolds : Bool → Live → Turn → Type 0
Unfolds is_open l (Waiting next) = next.session.shown.expanded ≡ unfolded_keys is_open l.session.shown
Unfolds is_open l (Editing a) = ⊥
Unfolds is_open l (Accepted state) = ⊥

-- whether the screen cannot show all of `keys`: there are none, or more than it has rows
abbrev pub cannot_fit : Live → List SelectionKey → Bool
cannot_fit l keys = nat_eq (length keys) 0 || nat_lt (length (scene_of l.kind l.session).frame.rows) (length keys)

-- the items of a session
abbrev pub items_of : Live → List SelectionKey
items_of l = all_keys l.session.shown.state.files

-- the deeds that fold those of `keys` again that are not `expanded`: first sections, then files
abbrev pub folds_again : List SelectionKey → List SelectionKey → List Deed
folds_again expanded keys = section_folds expanded keys ++ file_folds expanded keys

-- the session is as it was, or these deeds are done and `back` is selected
pub data FoldsUnlessShown (l : Live) (deeds : List Deed) (back : SelectionKey) (turn : Turn) : Type 0 where
  shows : turn ≡ Waiting l → FoldsUnlessShown l deeds back turn
  folds : {calls : List Call} → RoundLeads l deeds back calls turn → FoldsUnlessShown l deeds back turn

-- all is unfolded in a session, and then either stays so, or just what was folded before is folded again, with the old selection
pub record TriesAll (l : Live) (turn : Turn) : Type 0 where
  pub whole : Live
  pub refolded : IsRefolded l whole
  pub unfolded : Unfolds true l (Waiting whole)
  pub last : FoldsUnlessShown whole (folds_again l.session.shown.expanded (items_of l)) l.session.shown.selection turn

-- The session is as it was if the screen cannot show all items, and else all is unfolded to try it. Which rows the screen shows then is
-- not said here.
pub data Fits (l : Live) (turn : Turn) : Type 0 where
  stays : cannot_fit l (items_of l) ≡ true → turn ≡ Waiting l → Fits l turn
  tries : cannot_fit l (items_of l) ≡ false → TriesAll l turn → Fits l turn

-- what `folds` says is unfolded
abbrev pub UnfoldsAs : Folds → Live → Turn → Type 0
UnfoldsAs AsIs l turn = turn ≡ Waiting l
UnfoldsAs Folded l turn = Unfolds false l turn
UnfoldsAs Open l turn = Unfolds true l turn
UnfoldsAs Fitting l turn = Fits l turn

-- a deed that folds or unfolds
abbrev pub IsFold : Deed → Type 0
IsFold deed = (t : Target) → deed ≡ Mark t → ⊥

-- all deeds fold or unfold
abbrev pub AreFolds : List Deed → Type 0
AreFolds deeds = All IsFold deeds

-- at the start the session is refolded as `folds` says, and then `first` is selected, if the state has such an item
pub record Starts (folds : Folds) (l : Live) (first : SelectionKey) (turn : Turn) : Type 0 where
  pub folded : Live
  pub refolded : IsRefolded l folded
  pub unfolded : UnfoldsAs folds l (Waiting folded)
  pub selected : turn ≡ Waiting (after_selecting folded first)
