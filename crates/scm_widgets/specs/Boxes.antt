-- Checkboxes and fold boxes of components.
use Rattle.std.specs.Prelude.{true, false, Bool}
use Rattle.scm_types.specs.declared.keys.SelectionKey.{SelectionKey}
use Rattle.scm_types.specs.declared.tristate.Tristate.{Tristate}
use Rattle.scm_widgets.specs.declared.ids.ComponentId.{ComponentId}
use Rattle.scm_widgets.specs.declared.ids.ComponentId.TheVariants as ids
use Rattle.scm_widgets.specs.declared.tristate_box.TristateBox.{TristateBox}
use Rattle.scm_widgets.specs.declared.tristate_box.TristateIconStyle.TheVariants as style
use Rattle.scm_types.specs.declared.tristate.Tristate.TheVariants as tristate

-- The checkbox of `key`, with Unicode symbols, neither focused nor read-only.
abbrev pub new_toggle_box : SelectionKey → Tristate → TristateBox ComponentId
new_toggle_box key mark = record {
  use_unicode = true;
  is_focused = false;
  is_read_only = false;
  id = ids.ToggleBox key;
  tristate = mark;
  icon_style = style.Check;
}

-- The expand box of `key`, with Unicode symbols, neither focused nor read-only.
abbrev pub new_expand_box : SelectionKey → Tristate → TristateBox ComponentId
new_expand_box key fold = record {
  use_unicode = true;
  is_focused = false;
  is_read_only = false;
  id = ids.ExpandBox key;
  tristate = fold;
  icon_style = style.Expand;
}

-- a checkbox or fold box, with a component's id
abbrev pub IdBox : Type 0
IdBox = TristateBox ComponentId

-- whether a fold box in this state is open, wholly or in part
abbrev pub is_some_open : Tristate → Bool
is_some_open tristate.False = false
is_some_open tristate.Partial = true
is_some_open tristate.True = true

-- whether fold box b is open
abbrev pub is_fold_open : {K : Type 0} → TristateBox K → Bool
is_fold_open b = is_some_open b.tristate
