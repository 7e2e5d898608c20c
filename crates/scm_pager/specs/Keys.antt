-- The key table of a pager.
use Rattle.std.specs.Prelude.{true, false, List, [], ◌∷◌, ◌&&◌, if◌then◌else◌}
use Rattle.scm_input.specs.KeyTable.{none, shift, control, char, same_modifiers, same_key}
use Rattle.scm_input.specs.declared.terminal.KeyModifiers.{KeyModifiers}
use Rattle.scm_input.specs.declared.terminal.KeyCode.{KeyCode}
use Rattle.scm_input.specs.declared.terminal.KeyCode.TheVariants as key
use Rattle.scm_input.specs.declared.terminal.KeyEventKind.{KeyEventKind}
use Rattle.scm_input.specs.declared.terminal.KeyEventKind.TheVariants.{Press, Repeat, Release}
use Rattle.scm_input.specs.declared.terminal.MouseEventKind.{MouseEventKind}
use Rattle.scm_input.specs.declared.terminal.MouseEventKind.TheVariants as mouse
use Rattle.scm_input.specs.declared.terminal.TerminalEvent.{TerminalEvent}
use Rattle.scm_input.specs.declared.terminal.TerminalEvent.TheVariants as terminal
use Rattle.scm_pager.specs.declared.keys.Step.TheVariants as steps
use Rattle.scm_pager.specs.declared.keys.Turn.TheVariants.{Left, Right}
use Rattle.scm_pager.specs.declared.keys.Deed.{Deed}
use Rattle.scm_pager.specs.declared.keys.Deed.TheVariants.{Step, Turn, Show, Close, Stay}

-- a row of the table: with exactly these modifiers, this key is this deed
pub record DeedRow : Type 0 where
  pub modifiers : KeyModifiers
  pub code : KeyCode
  pub deed : Deed

-- a row of the table
abbrev pub by : KeyModifiers → KeyCode → Deed → DeedRow
by modifiers code deed = record { modifiers = modifiers; code = code; deed = deed }

-- the keys that step up or down
abbrev pub step_keys : List DeedRow
step_keys =
    by none (char "j") (Step steps.Down)
    ∷ by none key.Down (Step steps.Down)
    ∷ by none (char "k") (Step steps.Up)
    ∷ by none key.Up (Step steps.Up)
    ∷ by control (char "d") (Step steps.HalfPageDown)
    ∷ by control (char "u") (Step steps.HalfPageUp)
    ∷ by control (char "f") (Step steps.PageDown)
    ∷ by none key.PageDown (Step steps.PageDown)
    ∷ by control (char "b") (Step steps.PageUp)
    ∷ by none key.PageUp (Step steps.PageUp)
    ∷ by none (char "g") (Step steps.First)
    ∷ by none key.Home (Step steps.First)
    ∷ by shift (char "G") (Step steps.Last)
    ∷ by none key.End (Step steps.Last)
    ∷ []

-- the other keys
abbrev pub other_keys : List DeedRow
other_keys =
    by none (char ">") (Turn Right)
    ∷ by shift (char ">") (Turn Right)
    ∷ by none (char "<") (Turn Left)
    ∷ by shift (char "<") (Turn Left)
    ∷ by none (char "p") (Show true)
    ∷ by shift (char "P") (Show false)
    ∷ by none (char "?") Close
    ∷ by none key.Esc Close
    ∷ by none (char "q") Close
    ∷ by control (char "c") Close
    ∷ []

-- the deed of the first row that matches, or else `otherwise`
abbrev pub first_deed : List DeedRow → KeyModifiers → KeyCode → Deed → Deed
first_deed [] modifiers code otherwise = otherwise
first_deed (row ∷ rows) modifiers code otherwise =
    if same_modifiers row.modifiers modifiers && same_key row.code code then row.deed
    else first_deed rows modifiers code otherwise

-- what pressing a key does
abbrev pub deed_of_press : KeyModifiers → KeyCode → Deed
deed_of_press modifiers code = first_deed other_keys modifiers code (first_deed step_keys modifiers code Stay)

-- what a key does: only a press counts
abbrev pub deed_of_key : KeyEventKind → KeyModifiers → KeyCode → Deed
deed_of_key Press modifiers code = deed_of_press modifiers code
deed_of_key Repeat modifiers code = Stay
deed_of_key Release modifiers code = Stay

-- what the mouse does: the wheel steps a line
abbrev pub deed_of_mouse : MouseEventKind → Deed
deed_of_mouse mouse.ScrollUp = Step steps.Up
deed_of_mouse mouse.ScrollDown = Step steps.Down
deed_of_mouse (mouse.Down button) = Stay
deed_of_mouse (mouse.Up button) = Stay
deed_of_mouse (mouse.Drag button) = Stay
deed_of_mouse mouse.Moved = Stay
deed_of_mouse mouse.Other = Stay

-- what an event of a terminal does
abbrev pub deed_of : TerminalEvent → Deed
deed_of (terminal.Key e) = deed_of_key e.kind e.modifiers e.code
deed_of (terminal.Mouse e) = deed_of_mouse e.kind
deed_of terminal.Other = Stay
