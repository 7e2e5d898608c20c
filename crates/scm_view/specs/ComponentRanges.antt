-- What each component draws alone is in range, on the screen or off it, and under a mask. This is the condition of its `draw`. Places are
-- within the bounds, texts within the limit of a state's texts, and lists within their limits.
use Rattle.std.specs.Prelude.{◌≡◌, ℕ, ◌+◌, ◌≤◌, ◌^◌, ℤ, pos, ◌+ℤ◌, List, [], ◌∷◌, length, sum_by, Bool, true, ◌&&◌, nat_le}
use Rattle.std.specs.List.{list_all}
use Rattle.scm_types.specs.Limits.{is_short_text, is_short_option, has_short_texts, section_size}
use Rattle.scm_render.specs.Canvas.{Sight}
use Rattle.scm_render.specs.Picture.{PictureInRange}
use Rattle.scm_widgets.specs.declared.ids.ComponentId.{ComponentId}
use Rattle.scm_widgets.specs.declared.button.Button.{Button}
use Rattle.scm_overlay.specs.declared.menu.MenuItem.{MenuItem}
use Rattle.scm_overlay.specs.declared.menu.Menu.{Menu}
use Rattle.scm_overlay.specs.declared.menu_bar.MenuBar.{MenuBar}
use Rattle.scm_overlay.specs.declared.dialog.Dialog.{Dialog}
use Rattle.scm_overlay.specs.declared.quit_dialog.QuitDialog.{QuitDialog}
use Rattle.scm_document.specs.declared.file_view_header.FileViewHeader.{FileViewHeader}
use Rattle.scm_document.specs.declared.section_line_view.SectionLineView.{SectionLineView}
use Rattle.scm_document.specs.declared.section_line_view.SectionLineViewInner.{SectionLineViewInner}
use Rattle.scm_document.specs.declared.section_line_view.SectionLineViewInner.TheVariants as inner
use Rattle.scm_document.specs.declared.section_view.SectionView.{SectionView}
use Rattle.scm_document.specs.declared.file_view.FileView.{FileView}
use Rattle.scm_document.specs.declared.commit_message_view.CommitMessageView.{CommitMessageView}
use Rattle.scm_document.specs.declared.commit_view.CommitView.{CommitView}
use Rattle.scm_view.specs.declared.app_view.AppView.{AppView}
use Rattle.scm_widgets.specs.DrawBounds.{IsInDrawBounds, RectIsInDrawBounds}
use Rattle.scm_document.specs.DrawBounds.{SightIsInDrawBounds}
use Rattle.scm_widgets.specs.Boxes.{IdBox}
use Rattle.scm_document.specs.Rows.{lent_text}
use Rattle.scm_widgets.specs.Pictures.{box_picture, button_picture}
use Rattle.scm_document.specs.Pictures.{header_picture, line_picture, section_picture, file_picture, commit_message_picture, commit_picture}
use Rattle.scm_overlay.specs.Menus.{menu_picture, menu_bar_picture}
use Rattle.scm_overlay.specs.Dialogs.{shown_dialog, dialog_picture}
use Rattle.scm_overlay.specs.Tables.{quit_dialog, help_dialog, named_dialog_picture}
use Rattle.scm_view.specs.AppView.{app_picture}

-- ---- views of short texts

-- The text of a line.
abbrev pub text_of_line : SectionLineViewInner → List ℕ
text_of_line (inner.Unchanged line number) = line.now
text_of_line (inner.Changed box change line) = line.now

-- The section's texts are short, and it has at most 2^40 lines.
pub record IsShortSection (v : SectionView) : Type 0 where
  pub texts : has_short_texts v.section.now ≡ true
  pub lines : section_size v.section.now ≤ 2 ^ 40

-- The paths of the file and the texts of its sections are short, and it has at most 2^40 sections and lines together.
pub record IsShortFile (v : FileView) : Type 0 where
  pub old_path : is_short_option (lent_text v.old_path) ≡ true
  pub path : is_short_text v.path.now ≡ true
  pub texts : list_all (λ (w : SectionView). has_short_texts w.section.now) v.section_views ≡ true
  pub lines : length v.section_views + sum_by (λ (w : SectionView). section_size w.section.now) v.section_views ≤ 2 ^ 40

-- All files are short.
abbrev pub AreShortFiles : List FileView → Type 0
AreShortFiles [] = Unit {0}
AreShortFiles (v ∷ vs) = IsShortFile v × AreShortFiles vs

-- The message of the commit and its files are short, and it has at most 2^16 files.
pub record IsShortCommit (v : CommitView) : Type 0 where
  pub message : is_short_option v.commit_message_view.commit.now.message ≡ true
  pub files : AreShortFiles v.file_views
  pub count : length v.file_views ≤ 2 ^ 16

-- ---- labels

-- Whether the label of the item is short.
abbrev pub is_short_item : MenuItem → Bool
is_short_item t = is_short_text t.label

-- Whether the labels of the menu and its items are short, and it has at most 1,000 items.
abbrev pub is_short_menu : Menu → Bool
is_short_menu m = is_short_text m.label && (nat_le (length m.items) 1000 && list_all is_short_item m.items)

-- Whether all menus of the bar are short, and there are at most 1,000 of them.
abbrev pub is_short_bar : MenuBar → Bool
is_short_bar b = nat_le (length b.menus) 1000 && list_all is_short_menu b.menus

-- Whether the label of the button is short.
abbrev pub is_short_button : Button ComponentId → Bool
is_short_button b = is_short_text b.label

-- Whether all buttons are short, and there are at most 1,000 of them.
abbrev pub are_short_buttons : List (Button ComponentId) → Bool
are_short_buttons bs = nat_le (length bs) 1000 && list_all is_short_button bs

-- ---- the whole screen

-- All commits are short.
abbrev pub AreShortCommits : List CommitView → Type 0
AreShortCommits [] = Unit {0}
AreShortCommits (v ∷ vs) = IsShortCommit v × AreShortCommits vs

-- The menu bar and the commits of the view are short.
pub record IsShortApp (a : AppView) : Type 0 where
  pub menu_bar : is_short_bar a.menu_bar ≡ true
  pub commits : AreShortCommits a.commit_views

-- The screen, the row below its first row, the view's first column and the greatest first column of a second document are within the
-- bounds.
pub record AppIsInDrawBounds (s : Sight) (x : ℤ) : Type 0 where
  pub rect : RectIsInDrawBounds s.rect
  pub below : IsInDrawBounds (s.rect.y +ℤ pos 1)
  pub first : IsInDrawBounds x
  pub second : IsInDrawBounds ((x +ℤ pos s.rect.width) +ℤ pos 1)

-- ---- the law

-- All that a component draws is in range, kind by kind.
pub record ComponentsAreInRange : Type 0 where
  pub boxes : (b : IdBox) (s : Sight) (x y : ℤ) → IsInDrawBounds x → IsInDrawBounds y → PictureInRange (box_picture b s x y)
  pub buttons : (b : Button ComponentId) (s : Sight) (x y : ℤ) → IsInDrawBounds x → IsInDrawBounds y → is_short_button b ≡ true
      → PictureInRange (button_picture b s x y)
  pub headers : (v : FileViewHeader) (s : Sight) (x y : ℤ) → SightIsInDrawBounds s → IsInDrawBounds x → IsInDrawBounds y
      → is_short_option (lent_text v.old_path) ≡ true → is_short_text v.path.now ≡ true → PictureInRange (header_picture v s x y)
  pub lines : (v : SectionLineView) (s : Sight) (x y : ℤ) → SightIsInDrawBounds s → IsInDrawBounds x → IsInDrawBounds y
      → is_short_text (text_of_line v.inner) ≡ true → PictureInRange (line_picture v s x y)
  pub sections : (v : SectionView) (s : Sight) (x y : ℤ) → SightIsInDrawBounds s → IsInDrawBounds x → IsInDrawBounds y
      → IsShortSection v → PictureInRange (section_picture v s x y)
  pub files : (v : FileView) (s : Sight) (x y : ℤ) → SightIsInDrawBounds s → IsInDrawBounds x → IsInDrawBounds y → IsShortFile v
      → PictureInRange (file_picture v s x y)
  pub messages : (v : CommitMessageView) (s : Sight) (x y : ℤ) → SightIsInDrawBounds s → IsInDrawBounds x → IsInDrawBounds y
      → is_short_option v.commit.now.message ≡ true → PictureInRange (commit_message_picture v s x y)
  pub commits : (v : CommitView) (s : Sight) (x y : ℤ) → SightIsInDrawBounds s → IsInDrawBounds x → IsInDrawBounds y → IsShortCommit v
      → PictureInRange (commit_picture v s x y)
  pub menus : (m : Menu) (s : Sight) (x y : ℤ) → IsInDrawBounds x → IsInDrawBounds y → is_short_menu m ≡ true
      → PictureInRange (menu_picture m.items s x y)
  pub bars : (b : MenuBar) (s : Sight) (x y : ℤ) → RectIsInDrawBounds s.rect → IsInDrawBounds x → IsInDrawBounds y
      → is_short_bar b ≡ true → PictureInRange (menu_bar_picture b s x y)
  pub dialogs : (d : Dialog ComponentId) (s : Sight) → RectIsInDrawBounds s.rect → are_short_buttons d.buttons.now ≡ true
      → PictureInRange (dialog_picture (shown_dialog d) s)
  pub quit_dialogs : (q : QuitDialog) (s : Sight) → RectIsInDrawBounds s.rect → PictureInRange (named_dialog_picture (quit_dialog q) s)
  pub help_dialogs : (s : Sight) → RectIsInDrawBounds s.rect → PictureInRange (named_dialog_picture help_dialog s)
  pub apps : (a : AppView) (s : Sight) (x y : ℤ) → AppIsInDrawBounds s x → IsShortApp a → PictureInRange (app_picture a s x y)
