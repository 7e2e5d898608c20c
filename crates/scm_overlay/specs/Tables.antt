-- The texts of the menus, the quit dialog and the help dialog.
use Rattle.std.specs.Prelude.{ℕ, suc, ◌==◌, ◌&&◌, Bool, true, false, List, [], ◌∷◌, ◌++◌, map, Option, Some, None, if◌then◌else◌, codes, decimal, encode_utf8_all}
use Rattle.scm_render.specs.Canvas.{Sight}
use Rattle.scm_render.specs.Picture.{Picture, part}
use Rattle.scm_widgets.specs.declared.ids.ComponentId.{ComponentId}
use Rattle.scm_widgets.specs.declared.ids.ComponentId.TheVariants as ids
use Rattle.scm_widgets.specs.declared.button.Button.{Button}
use Rattle.scm_overlay.specs.declared.menu.MenuItem.{MenuItem}
use Rattle.scm_overlay.specs.declared.menu.Menu.{Menu}
use Rattle.scm_overlay.specs.declared.menu_bar.MenuBar.{MenuBar}
use Rattle.scm_overlay.specs.declared.quit_dialog.QuitDialog.{QuitDialog}
use Rattle.scm_widgets.specs.declared.ids.QuitDialogButtonId.{QuitDialogButtonId}
use Rattle.scm_widgets.specs.declared.ids.QuitDialogButtonId.TheVariants.{Quit, GoBack}
use Rattle.scm_widgets.specs.ShownDialogs.{ShownDialog}
use Rattle.scm_overlay.specs.Dialogs.{dialog_picture}
use Rattle.scm_widgets.specs.QuitButtons.{is_quit, is_go_back}

-- ---- menus

-- A menu item with this label.
abbrev pub item : List ℕ → MenuItem
item label = record { label = label }

-- The menu File.
abbrev pub file_menu : Menu
file_menu = record { label = codes "File"; items = map item (codes "Confirm (c)" ∷ (codes "Quit (q)" ∷ [])) }

-- The menu Edit.
abbrev pub edit_menu : Menu
edit_menu = record {
  label = codes "Edit";
  items = map item
      (codes "Edit message (e)" ∷ (codes "Toggle current (space)" ∷ (codes "Toggle current and advance (enter)"
      ∷ (codes "Invert all items (a)" ∷ (codes "Invert all items uniformly (A)" ∷ [])))));
}

-- The menu Select.
abbrev pub select_menu : Menu
select_menu = record {
  label = codes "Select";
  items = map item
      (codes "Previous item (up, k)" ∷ (codes "Next item (down, j)" ∷ (codes "Previous item of the same kind (page-up)"
      ∷ (codes "Next item of the same kind (page-down)" ∷ (codes "Outer item without folding (shift-left, shift-h)"
      ∷ (codes "Outer item with folding (left, h)" ∷ (codes "Inner item with unfolding (right, l)"
      ∷ (codes "Previous page (ctrl-u)" ∷ (codes "Next page (ctrl-d)" ∷ [])))))))));
}

-- The menu View.
abbrev pub view_menu : Menu
view_menu = record {
  label = codes "View";
  items = map item
      (codes "Fold/unfold current (f)" ∷ (codes "Fold/unfold all (F)" ∷ (codes "Scroll up (ctrl-up, ctrl-y)"
      ∷ (codes "Scroll down (ctrl-down, ctrl-e)" ∷ (codes "Previous page (ctrl-page-up, ctrl-b)" ∷ (codes "Next page (ctrl-page-down, ctrl-f)" ∷ []))))));
}

-- The menus of the bar, from the left, each with all its items.
abbrev pub all_menus : List Menu
all_menus = file_menu ∷ (edit_menu ∷ (select_menu ∷ (view_menu ∷ [])))

-- Whether menu `k` is the open one.
abbrev pub is_open_menu : Option ℕ → ℕ → Bool
is_open_menu None k = false
is_open_menu (Some n) k = n == k

-- The menu `m` as it is in the bar, where it is menu `k`: a closed menu has no items.
abbrev pub menu_in_bar : Option ℕ → ℕ → Menu → Menu
menu_in_bar expanded k m = record { label = m.label; items = if is_open_menu expanded k then m.items else [] }

-- Menus as they are in the bar, where the first of them is menu `k`.
abbrev pub menus_in_bar : Option ℕ → ℕ → List Menu → List Menu
menus_in_bar expanded k [] = []
menus_in_bar expanded k (m ∷ ms) = menu_in_bar expanded k m ∷ menus_in_bar expanded (suc k) ms

-- The menu bar with this open menu, if any. Only the open menu has items.
abbrev pub menus_with : Option ℕ → MenuBar
menus_with expanded = record { menus = menus_in_bar expanded 0 all_menus; expanded_menu_idx = expanded }

-- ---- the quit dialog

-- The count `n` and the noun `word`, in the plural unless `n` is 1.
abbrev pub count_text : ℕ → List ℕ → List ℕ
count_text n word = decimal n ++ (codes " " ++ (word ++ (if n == 1 then [] else codes "s")))

-- The changes that quitting would lose. A count of 0 is left out.
abbrev pub changes_text : ℕ → ℕ → List ℕ
changes_text messages files =
    if messages == 0 then count_text files (codes "file")
    else if files == 0 then count_text messages (codes "message")
    else count_text messages (codes "message") ++ (codes " and " ++ count_text files (codes "file"))

-- The question of the quit dialog.
abbrev pub quit_text : QuitDialog → List ℕ
quit_text q =
    if q.num_commit_messages == 0 && q.num_changed_files == 0 then codes "Are you sure you want to quit?"
    else codes "You have changes to "
    ++ (changes_text q.num_commit_messages q.num_changed_files ++ codes ". Are you sure you want to quit?")

-- The button that quits.
abbrev pub quit_button : QuitDialogButtonId → Button ComponentId
quit_button focused = record { id = ids.QuitDialogButton Quit; label = codes "Quit"; is_focused = is_quit focused }

-- The button that keeps the changes.
abbrev pub go_back_button : QuitDialogButtonId → Button ComponentId
go_back_button focused = record { id = ids.QuitDialogButton GoBack; label = codes "Go Back"; is_focused = is_go_back focused }

-- The content of the quit dialog.
abbrev pub quit_dialog : QuitDialog → ShownDialog ComponentId
quit_dialog q = record {
  id = ids.QuitDialog;
  title = codes "Quit";
  body = quit_text q ∷ [];
  buttons = quit_button q.focused_button ∷ (go_back_button q.focused_button ∷ []);
}

-- ---- the help

-- The lines of the help dialog. The arrows are U+2190, U+2191, U+2192 and U+2193.
unfoldable pub help_lines : List (List ℕ)
help_lines =
    codes "You can click the menus with a mouse, or use these keyboard shortcuts:"
    ∷ ([]
    ∷ (codes "    General                             Navigation"
    ∷ (encode_utf8_all (codes "    Quit/Cancel             q           Next/Prev               j/k or ↓/↑")
    ∷ (codes "    Confirm changes         c           Next/Prev of same type  PgDn/PgUp"
    ∷ (encode_utf8_all (codes "    Force quit              ^c          Move out & fold         h or ←")
    ∷ (encode_utf8_all (codes "                                        Move out & don't fold   H or Shift-←    ")
    ∷ (encode_utf8_all (codes "    View controls                       Move in & unfold        l or →")
    ∷ (codes "    Expand/Collapse         f"
    ∷ (codes "    Expand/Collapse all     F           Scrolling"
    ∷ (codes "    Edit commit message     e           Scroll up/down          ^y/^e"
    ∷ (encode_utf8_all (codes "                                                             or ^↑/^↓")
    ∷ (codes "    Selection                           Page up/down            ^b/^f"
    ∷ (codes "    Toggle current          Space                            or ^PgUp/^PgDn"
    ∷ (codes "    Toggle and advance      Enter       Previous/Next page      ^u/^d"
    ∷ (codes "    Invert all              a"
    ∷ (codes "    Invert all uniformly    A"
    ∷ []))))))))))))))))

-- The button that closes the help dialog.
abbrev pub close_button : Button ComponentId
close_button = record { id = ids.HelpDialogQuitButton; label = codes "Close"; is_focused = true }

-- The content of the help dialog.
abbrev pub help_dialog : ShownDialog ComponentId
help_dialog = record {
  id = ids.HelpDialog;
  title = codes "Help";
  body = help_lines;
  buttons = close_button ∷ [];
}

-- ---- what they draw

-- The picture of the quit dialog or the help dialog: a dialog with the same id.
unfoldable pub named_dialog_picture : ShownDialog ComponentId → Sight → Picture ComponentId
named_dialog_picture d s = part d.id (dialog_picture d s)
