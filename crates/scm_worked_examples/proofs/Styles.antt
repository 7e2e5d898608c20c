-- Styles of small sessions, computed from the definitions: of what a click acts on, and along a row of the screen.
use Rattle.std.proofs.Common.{◌≡◌, ℕ, Bool, true, false, refl, List, [], ◌∷◌, map}
use Rattle.std.specs.Prelude.{codes, replicate, Option, Some, None, ◌++◌}
use Rattle.std.specs.List.{range_with_len}
use Rattle.scm_types.specs.declared.file_mode.FileMode.TheVariants.{Unix}
use Rattle.scm_types.specs.declared.line.ChangeType.TheVariants.{Added, Removed}
use Rattle.scm_types.specs.declared.section.Section.{Section}
use Rattle.scm_types.specs.declared.section.Section.TheVariants.{Unchanged, Changed, FileMode, Binary}
use Rattle.scm_types.specs.declared.keys.SelectionKey.{SelectionKey}
use Rattle.scm_types.specs.declared.keys.SelectionKey.TheVariants as keys
use Rattle.scm_cells.specs.declared.style.Colour.{Colour}
use Rattle.scm_cells.specs.declared.style.Colour.TheVariants.{Blue, Green, Red}
use Rattle.scm_cells.specs.declared.style.Style.{Style}
use Rattle.scm_document.specs.declared.commit_view.CommitViewMode.TheVariants as mode
use Rattle.scm_widgets.specs.declared.ids.ComponentId.TheVariants as ids
use Rattle.scm_widgets.specs.declared.ids.QuitDialogButtonId.TheVariants as buttons
use Rattle.scm_view.specs.ViewState.{ViewState}
use Rattle.scm_view.specs.Window.{owner}
use Rattle.scm_view_state.specs.declared.items.ItemKind.TheVariants as kinds
use Rattle.scm_view_state.specs.Items.{item_kind}
use Rattle.scm_view_state.specs.Styles.{style_of}
use Rattle.scm_worked_examples.proofs.Computing.{owners, file_key, section_key, line_key, file_of, item, toggle, header}

-- a file with a line of context, a removed line and an added one, a new mode, and a binary
abbrev sections : List Section
sections =
    Unchanged ((97 ∷ 10 ∷ []) ∷ [])
    ∷ (Changed (record { is_checked = false; change_type = Removed; line = 98 ∷ 10 ∷ [] }
    ∷ (record { is_checked = true; change_type = Added; line = 99 ∷ 10 ∷ [] } ∷ []))
    ∷ (FileMode false (Unix 33261) ∷ (Binary false None None ∷ [])))

abbrev shown : Bool → SelectionKey → ViewState
shown is_read_only selection = record {
  state = record {
    is_read_only = is_read_only;
    commits = record { message = None } ∷ (record { message = None } ∷ []);
    files = file_of (codes "f") sections ∷ [];
  };
  selection = selection;
  expanded = file_key ∷ (section_key 1 ∷ []);
  view_mode = mode.Inline;
  open_menu = None;
  quit_dialog = None;
  is_help_open = false;
}

-- a style by its colour, and by whether it is bold, dim and reversed
abbrev style : Option Colour → Bool → Bool → Bool → Style
style colour bold dim reversed = record { colour = colour; bold = bold; dim = dim; underlined = false; reversed = reversed }

abbrev plain : Style
plain = style None false false false

-- ---- what keys name

kinds_of_keys :
    (map (item_kind (shown false file_key)) (file_key ∷ (section_key 0 ∷ (section_key 1 ∷ (section_key 2 ∷ (section_key 3 ∷ [])))))
    ≡ kinds.File ∷ (kinds.Context ∷ (kinds.Section ∷ (kinds.Mode ∷ (kinds.Binary ∷ [])))))
    × (map (item_kind (shown false file_key)) (line_key 0 0 ∷ (line_key 1 0 ∷ (line_key 1 1 ∷ [])))
    ≡ kinds.Context ∷ (kinds.Removed ∷ (kinds.Added ∷ [])))
    × (map (item_kind (shown false file_key)) (keys.None ∷ (section_key 4 ∷ (line_key 0 1 ∷ (line_key 1 2 ∷ (line_key 2 0 ∷ [])))))
    ≡ replicate 5 kinds.Nothing)
kinds_of_keys = (refl, refl, refl)

-- ---- lines and sections, on any row

an_addition :
    (style_of (shown false file_key) 5 (item (line_key 1 1)) ≡ style (Some Green) false false false)
    × (style_of (shown false (line_key 1 1)) 5 (item (line_key 1 1)) ≡ style (Some Green) false false true)
an_addition = (refl, refl)

a_removal :
    (style_of (shown false file_key) 4 (item (line_key 1 0)) ≡ style (Some Red) false false false)
    × (style_of (shown false (line_key 1 1)) 4 (item (line_key 1 0)) ≡ style (Some Red) false false false)
a_removal = (refl, refl)

-- the row `⋮` is its section's
a_context_line :
    (style_of (shown false file_key) 2 (item (line_key 0 0)) ≡ style None false true false)
    × (style_of (shown false file_key) 2 (item (section_key 0)) ≡ style None false true false)
a_context_line = (refl, refl)

a_mode_and_a_binary :
    (style_of (shown false file_key) 6 (item (section_key 2)) ≡ style (Some Blue) false false false)
    × (style_of (shown false (section_key 2)) 6 (item (section_key 2)) ≡ style (Some Blue) false false true)
    × (style_of (shown false file_key) 7 (item (section_key 3)) ≡ style (Some Blue) false false false)
a_mode_and_a_binary = (refl, refl, refl)

a_section_header :
    (style_of (shown false file_key) 3 (item (section_key 1)) ≡ plain)
    × (style_of (shown false (section_key 1)) 3 (item (section_key 1)) ≡ style None false false true)
a_section_header = (refl, refl)

-- a key of the second commit has the colour of the first one's, and only the very key that is selected is reversed
abbrev second_commit : SelectionKey → SelectionKey
second_commit keys.None = keys.None
second_commit (keys.File key) = keys.File (record key { commit_idx = 1 })
second_commit (keys.Section key) = keys.Section (record key { commit_idx = 1 })
second_commit (keys.Line key) = keys.Line (record key { commit_idx = 1 })

a_selected_line_of_the_second_commit :
    (style_of (shown false (second_commit (line_key 1 1))) 5 (item (second_commit (line_key 1 1)))
    ≡ style (Some Green) false false true)
    × (style_of (shown false (second_commit (line_key 1 1))) 5 (item (line_key 1 1)) ≡ style (Some Green) false false false)
    × (style_of (shown false (line_key 1 1)) 5 (item (second_commit (line_key 1 1))) ≡ style (Some Green) false false false)
a_selected_line_of_the_second_commit = (refl, refl, refl)

-- ---- boxes and headers

boxes :
    (style_of (shown false file_key) 3 (toggle (section_key 1)) ≡ style None true false false)
    × (style_of (shown true file_key) 3 (toggle (section_key 1)) ≡ style None false true false)
    × (style_of (shown false (section_key 1)) 3 (toggle (section_key 1)) ≡ style None true false true)
    × (style_of (shown true file_key) 3 (Some (ids.ExpandBox (section_key 1))) ≡ style None true false false)
boxes = (refl, refl, refl, refl)

headers :
    (style_of (shown false file_key) 1 header ≡ style (Some Blue) false false true)
    × (style_of (shown false (section_key 1)) 1 header ≡ plain)
    × (style_of (shown false file_key) 3 (item file_key) ≡ plain)
headers = (refl, refl, refl)

-- ---- menus and dialogs

menus :
    (style_of (shown false file_key) 0 (Some ids.MenuBar) ≡ style None false false true)
    × (style_of (shown false file_key) 2 (Some ids.MenuBar) ≡ plain)
    × (style_of (shown false file_key) 2 (Some (ids.MenuItem 1)) ≡ style None false false true)
menus = (refl, refl, refl)

abbrev asked : ViewState
asked = record (shown false file_key) {
  quit_dialog = Some (record { num_commit_messages = 0; num_changed_files = 1; focused_button = buttons.Quit });
}

dialogs :
    (style_of asked 2 (Some (ids.QuitDialogButton buttons.Quit)) ≡ style None false false true)
    × (style_of asked 2 (Some (ids.QuitDialogButton buttons.GoBack)) ≡ plain)
    × (style_of asked 2 (Some ids.QuitDialog) ≡ plain)
dialogs = (refl, refl, refl)

-- ---- along a row of a screen of 24 columns and 8 rows

abbrev row_styles : ViewState → ℕ → List Style
row_styles s row = map (λ column. style_of s row (owner 24 8 0 s row column)) (range_with_len 0 24)

-- the box of an added line is bold, all else of its row is green, and the whole row is reversed where the line is selected
addition_row :
    (row_styles (shown false file_key) 5
    ≡ replicate 4 (style (Some Green) false false false)
    ++ (replicate 3 (style None true false false) ++ replicate 17 (style (Some Green) false false false)))
    × (row_styles (shown false (line_key 1 1)) 5
    ≡ replicate 4 (style (Some Green) false false true)
    ++ (replicate 3 (style None true false true) ++ replicate 17 (style (Some Green) false false true)))
unfolding owners
addition_row = (refl, refl)

-- the header of the selected file, with both of its boxes
header_row : row_styles (shown false file_key) 1
    ≡ replicate 3 (style None true false true)
    ++ (replicate 18 (style (Some Blue) false false true) ++ replicate 3 (style None true false true))
unfolding owners
header_row = refl
