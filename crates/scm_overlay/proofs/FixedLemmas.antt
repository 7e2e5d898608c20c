-- The selector's own menus and dialogs: their columns, that an open menu has one, and that ids and labels are as the window asks.
use Rattle.std.proofs.Common.{◌≡◌, ℕ, zero, suc, ◌+◌, ◌<◌, Bool, List, [], ◌∷◌, inl, inr, refl, ap, arith}
use Rattle.std.specs.Prelude.{codes, Option, Some, None}
use Rattle.unicode_segmentation.proofs.Computing.{unicode_segmentation}
use Rattle.unicode_width.proofs.Computing.{unicode_width}
use Rattle.scm_cells.specs.Clusters.{text_width, clusters, with_width, visible_clusters, visible_width, has_control}
use Rattle.scm_render.specs.Hits.{IsLawful}
use Rattle.scm_widgets.specs.declared.ids.ComponentId.{ComponentId}
use Rattle.scm_widgets.specs.declared.ids.ComponentId.TheVariants as ids
use Rattle.scm_widgets.specs.declared.button.Button.{Button}
use Rattle.scm_overlay.specs.declared.menu.MenuItem.{MenuItem}
use Rattle.scm_overlay.specs.declared.quit_dialog.QuitDialog.{QuitDialog}
use Rattle.scm_widgets.specs.declared.ids.QuitDialogButtonId.{QuitDialogButtonId}
use Rattle.scm_widgets.specs.declared.ids.QuitDialogButtonId.TheVariants.{Quit, GoBack}
use Rattle.scm_widgets.specs.Texts.{button_text}
use Rattle.scm_widgets.specs.Clicks.{is_clickable}
use Rattle.scm_overlay.proofs.Parts.{Help, Leaving, part_of}
use Rattle.scm_widgets.specs.Buttons.{button_width}
use Rattle.scm_overlay.specs.Menus.{item_button, widest_item, headers_width, open_menu, open_menu_with_column}
use Rattle.scm_overlay.proofs.OpenMenus.{IsOpenWide}
use Rattle.scm_widgets.proofs.OwnButtons.{IsDialog}
use Rattle.scm_overlay.specs.Tables.{item, menus_with, quit_button, go_back_button, close_button, quit_dialog, help_dialog}
use Rattle.scm_overlay.proofs.Ranges.{IsShortMenu, IsShortBar, button_columns}
use Rattle.scm_overlay.proofs.MenuLemmas.{differ}

-- ---- columns

widths : (text_width (codes "(Quit)") ≡ 6) × (text_width (codes "[Quit]") ≡ 6) × (text_width (codes "(Go Back)") ≡ 9) × (text_width (codes "[Go Back]") ≡ 9) × (text_width (codes "(Close)") ≡ 7)
unfolding text_width clusters visible_clusters with_width visible_width has_control unicode_segmentation unicode_width
widths = (refl, refl, refl, refl, refl)

firsts : (text_width (codes "[Confirm (c)]") ≡ 13) × (text_width (codes "[Edit message (e)]") ≡ 18) × (text_width (codes "[Previous item (up, k)]") ≡ 23) × (text_width (codes "[Fold/unfold current (f)]") ≡ 25)
unfolding text_width clusters visible_clusters with_width visible_width has_control unicode_segmentation unicode_width
firsts = (refl, refl, refl, refl)

pub header_total : (k : Option ℕ) → headers_width (menus_with k).menus ≡ 30
unfolding headers_width button_width text_width clusters visible_clusters with_width visible_width has_control unicode_segmentation unicode_width
header_total k = refl

-- ---- the open menu has a column

wide_by : (t : MenuItem) (ts : List MenuItem) (n : ℕ) → button_width (item_button 0 t) ≡ suc n → 0 < widest_item (t ∷ ts)
unfolding widest_item
wide_by t ts n e = omega (arith, e)

first_item : (t : MenuItem) (n : ℕ) → text_width (button_text (item_button 0 t)) ≡ n → button_width (item_button 0 t) ≡ n
unfolding button_width
first_item t n e = e

pub open_is_wide : (k : Option ℕ) → IsOpenWide (open_menu (menus_with k))
unfolding open_menu_with_column
open_is_wide None = tt
open_is_wide (Some zero) = wide_by (item (codes "Confirm (c)")) _ 12 (first_item (item (codes "Confirm (c)")) 13 firsts.0)
open_is_wide (Some (suc zero)) = wide_by (item (codes "Edit message (e)")) _ 17 (first_item (item (codes "Edit message (e)")) 18 firsts.1)
open_is_wide (Some (suc (suc zero))) = wide_by (item (codes "Previous item (up, k)")) _ 22 (first_item (item (codes "Previous item (up, k)")) 23 firsts.2)
open_is_wide (Some (suc (suc (suc zero)))) = wide_by (item (codes "Fold/unfold current (f)")) _ 24 (first_item (item (codes "Fold/unfold current (f)")) 25 firsts.3)
open_is_wide (Some (suc (suc (suc (suc k))))) = tt

-- ---- the dialogs

module _ (same_id : ComponentId → ComponentId → Bool) (law : IsLawful same_id) where
  quit_buttons : (b : QuitDialogButtonId) → (0 < text_width (button_text (quit_button b))) × (0 < text_width (button_text (go_back_button b)))
  quit_buttons Quit = (omega (arith, widths.0), omega (arith, widths.3))
  quit_buttons GoBack = (omega (arith, widths.1), omega (arith, widths.2))

  pub quit_is_dialog : (q : QuitDialog) → IsDialog same_id is_clickable (λ i. part_of i ≡ Leaving) (quit_dialog q)
  unfolding button_width
  quit_is_dialog q =
      let wide = quit_buttons q.focused_button in
      record {
        buttons = (
          wide.0,
          refl,
          (λ j p. elim p [ inl e ↦ differ same_id law (ids.QuitDialogButton Quit) j (λ f. let same : ids.QuitDialogButton Quit ≡ ids.QuitDialogButton GoBack = cc (e, f) in cc same) | inr none ↦ absurd none ]),
          (wide.1, refl, (λ j p. absurd p), tt),
        );
        click = refl;
        own = λ j p. elim p [ inl e ↦ differ same_id law ids.QuitDialog j (λ f. cc (e, f)) | inr more ↦ elim more [ inl e ↦ differ same_id law ids.QuitDialog j (λ f. cc (e, f)) | inr none ↦ absurd none ] ];
        part = refl;
        parts = λ j p. elim p [ inl e ↦ ap part_of e | inr more ↦ elim more [ inl e ↦ ap part_of e | inr none ↦ absurd none ] ];
      }

  pub help_is_dialog : IsDialog same_id is_clickable (λ i. part_of i ≡ Help) help_dialog
  unfolding button_width
  help_is_dialog =
      record {
        buttons = (omega (arith, widths.4), refl, (λ j p. absurd p), tt);
        click = refl;
        own = λ j p. elim p [ inl e ↦ differ same_id law ids.HelpDialog j (λ f. cc (e, f)) | inr none ↦ absurd none ];
        part = refl;
        parts = λ j p. elim p [ inl e ↦ ap part_of e | inr none ↦ absurd none ];
      }

-- ---- menus and dialogs are short

short_menu : (k : Option ℕ) → IsShortMenu (open_menu (menus_with k))
unfolding open_menu_with_column widest_item button_width text_width clusters visible_clusters with_width visible_width has_control unicode_segmentation unicode_width
short_menu None = tt
short_menu (Some zero) = (omega arith, omega arith)
short_menu (Some (suc zero)) = (omega arith, omega arith)
short_menu (Some (suc (suc zero))) = (omega arith, omega arith)
short_menu (Some (suc (suc (suc zero)))) = (omega arith, omega arith)
short_menu (Some (suc (suc (suc (suc k))))) = tt

pub short_bar : (k : Option ℕ) → IsShortBar (menus_with k)
short_bar k = (omega (arith, header_total k), short_menu k)

two_buttons : (a b : Button ComponentId) (n m : ℕ) → text_width (button_text a) ≡ n → text_width (button_text b) ≡ m → button_columns (a ∷ (b ∷ [])) ≡ n + 1 + (m + 1 + 0)
unfolding button_columns button_width
two_buttons a b n m e f = rw (e, f) refl

one_button : (a : Button ComponentId) (n : ℕ) → text_width (button_text a) ≡ n → button_columns (a ∷ []) ≡ n + 1 + 0
unfolding button_columns button_width
one_button a n e = rw e refl

quit_columns : (b : QuitDialogButtonId) → (text_width (button_text (quit_button b)) ≡ 6) × (text_width (button_text (go_back_button b)) ≡ 9)
quit_columns Quit = (widths.0, widths.3)
quit_columns GoBack = (widths.1, widths.2)

pub short_quit : (q : QuitDialog) → button_columns (quit_dialog q).buttons ≡ 17
short_quit q = let e = quit_columns q.focused_button in two_buttons (quit_button q.focused_button) (go_back_button q.focused_button) 6 9 e.0 e.1

pub short_help : button_columns help_dialog.buttons ≡ 8
short_help = one_button close_button 7 widths.4
