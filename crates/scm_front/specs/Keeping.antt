-- What the layer keeps beside the session and the text that is searched for.
use Rattle.std.specs.Prelude.{◌≡◌, Bool, true, false, List, [], if◌then◌else◌}
use Rattle.scm_types.specs.declared.keys.SelectionKey.{SelectionKey}
use Rattle.scm_types.specs.declared.keys.SelectionKey.TheVariants as keys
use Rattle.scm_selection.specs.KeyLists.{is_line}
use Rattle.scm_front_items.specs.declared.items.Way.{Way}
use Rattle.scm_front_items.specs.declared.items.Way.TheVariants.{Up, Down}
use Rattle.scm_front_items.specs.declared.runs.Step.{Step}
use Rattle.scm_front_items.specs.declared.history.History.{History}
use Rattle.scm_front_items.specs.Histories.{no_history}
use Rattle.scm_front.specs.declared.kept.Notice.{Notice}
use Rattle.scm_front.specs.declared.kept.Notice.TheVariants.{Nothing, NoLine, Undone, Redone, NothingToUndo, NothingToRedo}
use Rattle.scm_front.specs.declared.kept.Kept.{Kept}

-- at first there is no range, no key and no history
pub record IsNew (kept : Kept) : Type 0 where
  pub anchor : kept.anchor ≡ keys.None
  pub word : kept.word ≡ Nothing
  pub keys : kept.keys ≡ []
  pub history : kept.history ≡ no_history

-- what is kept, with another word
abbrev pub saying : Kept → Notice → Kept
saying kept word = record kept { word = word }

-- with a range begun at `anchor`, or without one
abbrev pub anchored : Kept → SelectionKey → Kept
anchored kept anchor = record kept { anchor = anchor }

-- whether a key names nothing
abbrev pub is_none : SelectionKey → Bool
is_none keys.None = true
is_none (keys.File key) = false
is_none (keys.Section key) = false
is_none (keys.Line key) = false

-- a range ends if one is begun; otherwise it begins, if a line is selected
abbrev pub after_range : Kept → SelectionKey → Kept
after_range kept selection =
    if is_none kept.anchor
    then (if is_line selection then saying (anchored kept selection) Nothing else saying kept NoLine)
    else saying (anchored kept keys.None) Nothing

-- `new` is kept after `old`, with this anchor and this word; what it keeps of marks may differ
pub record KeepsAs (old : Kept) (begun : SelectionKey) (said : Notice) (new : Kept) : Type 0 where
  pub anchor : new.anchor ≡ begun
  pub word : new.word ≡ said
  pub keys : new.keys ≡ old.keys

-- the steps in a direction: those to undo, or those to do again; the newest one is the last
abbrev pub steps_of : Way → History → List Step
steps_of Up history = history.undos
steps_of Down history = history.redos

-- the other direction
abbrev pub other_way : Way → Way
other_way Up = Down
other_way Down = Up

-- the word after a step in a direction is done, and that after no step was left
abbrev pub done_word : Way → Notice
done_word Up = Undone
done_word Down = Redone

abbrev pub nothing_left : Way → Notice
nothing_left Up = NothingToUndo
nothing_left Down = NothingToRedo
