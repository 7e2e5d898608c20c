-- What each component draws alone is in range.
use Rattle.std.proofs.Common.{◌≡◌, ℕ, zero, suc, ◌+◌, ◌-◌, ◌*◌, ◌/◌, ◌≤◌, ◌^◌, ℤ, pos, ◌+ℤ◌, Bool, true, false, List, [], ◌∷◌, ◌++◌, length, length-append, map, take, refl, arith}
use Rattle.std.specs.Int.{int_min, int_max}
use Rattle.scm_cells.specs.Rect.{end_x_of}
use Rattle.std.specs.Prelude.{min, ◌&&◌, if◌then◌else◌, nat_le, codes, Option, Some, None, sum_by}
use Rattle.std.specs.List.{list_all}
use Rattle.std.proofs.Math.Nat.{div-le_self}
use Rattle.std.proofs.lemmas.Bool.{and_parts}
use Rattle.scm_types.specs.Limits.{is_short_text, is_short_option, section_size}
use Rattle.scm_cells.specs.Clusters.{text_width}
use Rattle.scm_cells.proofs.BoundLemmas.{text_width-le}
use Rattle.scm_cells.proofs.RectLemmas.{places}
use Rattle.scm_render.specs.Canvas.{Sight, under}
use Rattle.scm_render.specs.Picture.{PictureInRange, box_rect}
use Rattle.scm_render.specs.Drawing.{span_picture}
use Rattle.scm_render.proofs.PictureLemmas.{PictureInRange-nothing, PictureInRange-followed, PictureInRange-as_part}
use Rattle.scm_widgets.specs.declared.ids.ComponentId.{ComponentId}
use Rattle.scm_widgets.specs.declared.ids.ComponentId.TheVariants as ids
use Rattle.scm_widgets.specs.declared.button.Button.{Button}
use Rattle.scm_overlay.specs.declared.menu.MenuItem.{MenuItem}
use Rattle.scm_overlay.specs.declared.menu.Menu.{Menu}
use Rattle.scm_overlay.specs.declared.menu_bar.MenuBar.{MenuBar}
use Rattle.scm_overlay.specs.declared.quit_dialog.QuitDialog.{QuitDialog}
use Rattle.scm_document.specs.declared.file_view_header.FileViewHeader.{FileViewHeader}
use Rattle.scm_document.specs.declared.section_line_view.SectionLineViewInner.{SectionLineViewInner}
use Rattle.scm_document.specs.declared.section_line_view.SectionLineViewInner.TheVariants as inner
use Rattle.scm_document.specs.declared.section_view.SectionView.{SectionView}
use Rattle.scm_document.specs.declared.file_view.FileView.{FileView}
use Rattle.scm_document.specs.declared.commit_view.CommitView.{CommitView}
use Rattle.scm_document.specs.declared.commit_view.CommitViewMode.{CommitViewMode}
use Rattle.scm_document.specs.declared.commit_view.CommitViewMode.TheVariants.{Inline, Adjacent}
use Rattle.scm_view.specs.declared.app_view.AppView.{AppView}
use Rattle.scm_overlay.specs.Overlays.{quit_picture, help_picture}
use Rattle.scm_document.specs.ViewColumns.{view_count, view_width, view_mask, view_picture, next_view}
use Rattle.scm_view.specs.AppView.{shown_views, views_picture, has_help, app_picture}
use Rattle.scm_view.proofs.AppLemmas.{apply-columns}
use Rattle.scm_widgets.specs.Texts.{box_text, button_text}
use Rattle.scm_document.specs.Texts.{number_text, sign_text}
use Rattle.scm_widgets.specs.Boxes.{IdBox}
use Rattle.scm_document.specs.Rows.{line_texts, lent_text, header_heading, rows_of, section_rows, sections_rows, shown_file, file_rows, document_of}
use Rattle.scm_document.specs.FilesRows.{files_rows}
use Rattle.scm_widgets.specs.Pictures.{box_picture, button_picture}
use Rattle.scm_document.specs.Pictures.{header_picture, inner_picture, line_picture, section_picture, file_picture, message_picture, commit_message_picture, commit_picture}
use Rattle.scm_widgets.specs.Buttons.{button_width}
use Rattle.scm_overlay.specs.Menus.{header_button, item_button, header_step, headers_width, widest_item, open_menu_with_column, menu_picture, menu_bar_picture}
use Rattle.scm_overlay.specs.Dialogs.{shown_dialog}
use Rattle.scm_overlay.specs.Tables.{quit_dialog, help_dialog, named_dialog_picture}
use Rattle.scm_widgets.specs.DrawBounds.{IsInDrawBounds, RectIsInDrawBounds}
use Rattle.scm_document.specs.DrawBounds.{SightIsInDrawBounds}
use Rattle.scm_view.specs.ComponentRanges.{text_of_line, IsShortSection, IsShortFile, AreShortFiles, IsShortCommit, AreShortCommits, IsShortApp, AppIsInDrawBounds, is_short_item, is_short_menu, is_short_bar, is_short_button, are_short_buttons, ComponentsAreInRange}
use Rattle.scm_widgets.proofs.Near.{IsNear}
use Rattle.scm_document.proofs.Near.{SightIsNear, AreNarrowFiles}
use Rattle.scm_overlay.proofs.Ranges.{button_columns}
use Rattle.scm_document.proofs.NearLemmas.{heading-in, changed-in, context-in, rows-near, file-near, message-near, document-near, still-near}
use Rattle.scm_view.proofs.AppRangeLemmas.{few-views}
use Rattle.scm_view.proofs.LimitLemmas.{short, box-narrow, line-narrow, length-sign, length-number, path-narrow, heading-narrow, message-narrow, rows-narrow, shown-few, file-few, file-narrow, size_of}
use Rattle.scm_overlay.proofs.RangeLemmas.{IsFewItems, menu-here, bar-here, dialog-here}
use Rattle.scm_overlay.proofs.FixedLemmas.{short_quit, short_help}

-- ---- places

near-after : (z : ℤ) (n : ℕ) → IsInDrawBounds z → n ≤ 2 ^ 50 → IsNear (z +ℤ pos n)
near-after z n h k = record { low = omega (arith, places, h.low); high = omega (arith, places, h.high, k) }

sight-near : (s : Sight) → SightIsInDrawBounds s → SightIsNear s
sight-near s h = record { x = still-near _ h.x; end_x = still-near _ h.end_x; mask_x = still-near _ h.mask_x }

-- ---- boxes and buttons

span-here : (t : List ℕ) (s : Sight) (x y : ℤ) → IsInDrawBounds x → IsInDrawBounds y → text_width t ≤ 2 ^ 60 → PictureInRange {K = ComponentId} (span_picture s x y t)
unfolding span_picture
span-here t s x y p q w = record {
  areas = (
    record {
      x = record { low = omega (arith, places, p.low); high = omega (arith, places, p.high) };
      end_x = record { low = omega (arith, places, p.low); high = omega (arith, places, p.high, w) };
      y = record { low = omega (arith, places, q.low); high = omega (arith, places, q.high) };
      end_y = record { low = omega (arith, places, q.low); high = omega (arith, places, q.high) };
    },
    tt,
  );
}

box-here : (b : IdBox) (s : Sight) (x y : ℤ) → IsInDrawBounds x → IsInDrawBounds y → PictureInRange (box_picture b s x y)
unfolding box_picture
box-here b s x y p q = span-here (box_text b) s x y p q (box-narrow b)

length-button : (b : Button ComponentId) → length (button_text b) ≤ length b.label + 2
length-button b = go b.is_focused
  where
    go : (focused : Bool) → length (if focused then codes "(" ++ (b.label ++ codes ")") else codes "[" ++ (b.label ++ codes "]")) ≤ length b.label + 2
    go true = omega (arith, length-append b.label (codes ")"))
    go false = omega (arith, length-append b.label (codes "]"))

button-wide : (b : Button ComponentId) → is_short_text b.label ≡ true → button_width b ≤ 5000000
unfolding button_width
button-wide b h = omega (arith, text_width-le (button_text b), length-button b, short b.label h)

button-here : (b : Button ComponentId) (s : Sight) (x y : ℤ) → IsInDrawBounds x → IsInDrawBounds y → is_short_button b ≡ true → PictureInRange (button_picture b s x y)
unfolding button_picture button_width
button-here b s x y p q h = let w : button_width b ≤ 5000000 = button-wide b h in span-here (button_text b) s x y p q (omega (arith, w))

-- ---- headers and lines

header-here : (v : FileViewHeader) (s : Sight) (x y : ℤ) → SightIsInDrawBounds s → IsInDrawBounds x → IsInDrawBounds y → is_short_option (lent_text v.old_path) ≡ true → is_short_text v.path.now ≡ true
    → PictureInRange (header_picture v s x y)
unfolding header_picture
header-here v s x y n p q h k =
    heading-in (header_heading v) s x y (sight-near s n) (still-near x p) (still-near y q) (heading-narrow (header_heading v) (path-narrow (lent_text v.old_path) v.path.now h k))

inner-here : (i : SectionLineViewInner) (s : Sight) (x y : ℤ) → SightIsInDrawBounds s → IsInDrawBounds x → IsInDrawBounds y → is_short_text (text_of_line i) ≡ true → PictureInRange (inner_picture i s x y)
inner-here (inner.Unchanged line number) s x y n p q h =
    context-in (line_texts (number_text number) line.now) s x y (sight-near s n) (omega (arith, places, p.low)) (omega (arith, places, p.high)) (still-near y q) (line-narrow (number_text number) line.now (length-number number) h)
inner-here (inner.Changed box change line) s x y n p q h =
    changed-in box (line_texts (sign_text change) line.now) s x y (sight-near s n) (omega (arith, places, p.low)) (omega (arith, places, p.high)) (still-near y q) (box-narrow box)
    (line-narrow (sign_text change) line.now (length-sign change) h)

-- ---- sections and files

section-here : (v : SectionView) (s : Sight) (x y : ℤ) → SightIsInDrawBounds s → IsInDrawBounds x → IsInDrawBounds y → IsShortSection v → PictureInRange (section_picture v s x y)
unfolding section_picture section_rows sections_rows
section-here v s x y n p q h =
    let rows : length (rows_of v v.section.now ++ []) ≤ 2 * section_size v.section.now + 1 = shown-few true v in
    rows-near (rows_of v v.section.now) s x y (sight-near s n) (still-near x p) (still-near y q) (near-after y _ q (omega (arith, rows, length-append (rows_of v v.section.now) [], h.lines))) (rows-narrow v v.section.now h.texts)

file-tall : (v : FileView) → IsShortFile v → length (file_rows (shown_file v)) ≤ 2 ^ 42
file-tall v h =
    let lines : length v.section_views + sum_by size_of v.section_views ≤ 2 ^ 40 = h.lines in
    omega (arith, file-few v, lines)

file-here : (v : FileView) (s : Sight) (x y : ℤ) → SightIsInDrawBounds s → IsInDrawBounds x → IsInDrawBounds y → IsShortFile v → PictureInRange (file_picture v s x y)
unfolding file_picture
file-here v s x y n p q h =
    let narrow = file-narrow v h.old_path h.path h.texts in
    file-near (shown_file v) s x y (sight-near s n) (still-near x p) (near-after x 2 p (omega arith)) (still-near y q) (near-after y _ q (omega (arith, file-tall v h))) narrow.heading narrow.sections

-- ---- commits

message-here : (commit : ℕ) (m : Option (List ℕ)) (s : Sight) (x y : ℤ) → SightIsInDrawBounds s → IsInDrawBounds x → IsInDrawBounds y → is_short_option m ≡ true → PictureInRange (message_picture commit m s x y)
message-here commit m s x y n p q h = message-near commit m s x y (sight-near s n) (still-near x p) (still-near y q) (near-after y 1 q (omega arith)) (message-narrow m h)

files-narrow : (vs : List FileView) → AreShortFiles vs → AreNarrowFiles (map shown_file vs)
files-narrow [] h = tt
files-narrow (v ∷ vs) h = (file-narrow v h.0.old_path h.0.path h.0.texts, files-narrow vs h.1)

files-few : (vs : List FileView) → AreShortFiles vs → length (files_rows (map shown_file vs)) ≤ 4398046511104 * length vs
unfolding files_rows
files-few [] h = omega arith
files-few (v ∷ vs) h = omega (arith, length-append (file_rows (shown_file v)) (files_rows (map shown_file vs)), file-tall v h.0, files-few vs h.1)

commit-here : (v : CommitView) (s : Sight) (x y : ℤ) → SightIsInDrawBounds s → IsInDrawBounds x → IsInDrawBounds y → IsShortCommit v → PictureInRange (commit_picture v s x y)
unfolding commit_picture
commit-here v s x y n p q h =
    document-near (document_of v) s x y n p q (omega (arith, files-few v.file_views h.files, h.count))
    (record { message = message-narrow v.commit_message_view.commit.now.message h.message; files = files-narrow v.file_views h.files })

-- ---- menus

few : (n : ℕ) → nat_le n 1000 ≡ true → n ≤ 1000
few n h = grind (arith, h)

items-wide : (ts : List MenuItem) → list_all is_short_item ts ≡ true → widest_item ts ≤ 5000000
unfolding widest_item
items-wide [] h = omega arith
items-wide (t ∷ ts) h =
    omega (arith, button-wide (item_button 0 t) (and_parts (is_short_item t) (list_all is_short_item ts) h).0, items-wide ts (and_parts (is_short_item t) (list_all is_short_item ts) h).1)

menu-items : (m : Menu) → is_short_menu m ≡ true → (widest_item m.items ≤ 5000000) × (length m.items ≤ 1000)
menu-items m h =
    let rest = (and_parts (is_short_text m.label) (nat_le (length m.items) 1000 && list_all is_short_item m.items) h).1 in
    (items-wide m.items (and_parts (nat_le (length m.items) 1000) (list_all is_short_item m.items) rest).1, few (length m.items) (and_parts (nat_le (length m.items) 1000) (list_all is_short_item m.items) rest).0)

menu-in : (m : Menu) (s : Sight) (x y : ℤ) → IsInDrawBounds x → IsInDrawBounds y → is_short_menu m ≡ true → PictureInRange (menu_picture m.items s x y)
menu-in m s x y p q h =
    let items = menu-items m h in
    menu-here s x y m.items p.low (omega (arith, places, p.high)) q.low (omega (arith, places, q.high)) (omega (arith, items.0)) (omega (arith, items.1))

header-wide : (m : Menu) → is_short_menu m ≡ true → header_step m ≤ 5000001
header-wide m h = omega (arith, button-wide (header_button 0 m) (and_parts (is_short_text m.label) (nat_le (length m.items) 1000 && list_all is_short_item m.items) h).0)

headers-wide : (ms : List Menu) → list_all is_short_menu ms ≡ true → headers_width ms ≤ 5000001 * length ms
unfolding headers_width
headers-wide [] h = omega arith
headers-wide (m ∷ ms) h =
    omega (arith, header-wide m (and_parts (is_short_menu m) (list_all is_short_menu ms) h).0, headers-wide ms (and_parts (is_short_menu m) (list_all is_short_menu ms) h).1)

opened-few : (c : ℕ) (ms : List Menu) (k : Option ℕ) → list_all is_short_menu ms ≡ true → c + headers_width ms ≤ 2 ^ 50 → IsFewItems (open_menu_with_column c ms k)
unfolding open_menu_with_column headers_width
opened-few c ms None h w = tt
opened-few c [] (Some k) h w = tt
opened-few c (m ∷ ms) (Some zero) h w =
    let items = menu-items m (and_parts (is_short_menu m) (list_all is_short_menu ms) h).0 in
    (omega (arith, w), (omega (arith, items.0), omega (arith, items.1)))
opened-few c (m ∷ ms) (Some (suc k)) h w = opened-few (c + header_step m) ms (Some k) (and_parts (is_short_menu m) (list_all is_short_menu ms) h).1 (omega (arith, w))

bar-in : (b : MenuBar) (s : Sight) (x y : ℤ) → RectIsInDrawBounds s.rect → IsInDrawBounds x → IsInDrawBounds y → is_short_bar b ≡ true → PictureInRange (menu_bar_picture b s x y)
bar-in b s x y r p q h =
    let menus = (and_parts (nat_le (length b.menus) 1000) (list_all is_short_menu b.menus) h).1 in
    let count = few (length b.menus) (and_parts (nat_le (length b.menus) 1000) (list_all is_short_menu b.menus) h).0 in
    let wide = headers-wide b.menus menus in
    bar-here b s x y r p q (omega (arith, wide, count)) (opened-few 0 b.menus b.expanded_menu_idx menus (omega (arith, wide, count)))

-- ---- dialogs

columns-few : (bs : List (Button ComponentId)) → list_all is_short_button bs ≡ true → button_columns bs ≤ 5000001 * length bs
unfolding button_columns
columns-few [] h = omega arith
columns-few (b ∷ bs) h =
    omega (arith, button-wide b (and_parts (is_short_button b) (list_all is_short_button bs) h).0, columns-few bs (and_parts (is_short_button b) (list_all is_short_button bs) h).1)

buttons-few : (bs : List (Button ComponentId)) → are_short_buttons bs ≡ true → button_columns bs ≤ 2 ^ 50
buttons-few bs h =
    omega (arith, columns-few bs (and_parts (nat_le (length bs) 1000) (list_all is_short_button bs) h).1, few (length bs) (and_parts (nat_le (length bs) 1000) (list_all is_short_button bs) h).0)

quit-here : (q : QuitDialog) (s : Sight) → RectIsInDrawBounds s.rect → PictureInRange (named_dialog_picture (quit_dialog q) s)
unfolding named_dialog_picture
quit-here q s r = PictureInRange-as_part ids.QuitDialog _ (dialog-here (quit_dialog q) s r (omega (arith, short_quit q)))

help-here : (s : Sight) → RectIsInDrawBounds s.rect → PictureInRange (named_dialog_picture help_dialog s)
unfolding named_dialog_picture
help-here s r = PictureInRange-as_part ids.HelpDialog _ (dialog-here help_dialog s r (omega (arith, short_help)))

-- ---- all that the selector shows

held-here : (x a e : ℤ) → IsInDrawBounds x → IsInDrawBounds a → IsInDrawBounds e → IsInDrawBounds (int_min (int_max x a) e)
held-here x a e p q r = record { low = omega (arith, places, p.low, q.low, r.low); high = omega (arith, places, r.high) }

first-row : IsInDrawBounds (pos 1)
first-row = record { low = omega (arith, places); high = omega (arith, places) }

-- a view under its mask
view-here : (v : CommitView) (s : Sight) (x : ℤ) (n : ℕ) → RectIsInDrawBounds s.rect → IsInDrawBounds (s.rect.y +ℤ pos 1) → IsInDrawBounds x → IsShortCommit v → PictureInRange (view_picture v s x n)
view-here v s x n r b p h =
    commit-here v (under (view_mask s x n) s) x (pos 1) (record { x = r.x; end_x = r.end_x; mask_x = held-here x s.rect.x (end_x_of s.rect) p r.x r.end_x; mask_y = b }) p first-row h

next-here : (x : ℤ) (k n w : ℕ) → IsInDrawBounds x → IsInDrawBounds ((x +ℤ pos w) +ℤ pos 1) → n ≤ w → k ≤ n → IsInDrawBounds ((x +ℤ pos k) +ℤ pos 1)
next-here x k n w p q h l = record { low = omega (arith, places, p.low); high = omega (arith, places, q.high, h, l) }

two-views : (vs : List CommitView) (s : Sight) (x : ℤ) (n : ℕ) → length vs ≤ 2 → AreShortCommits vs → n ≤ s.rect.width → AppIsInDrawBounds s x → PictureInRange (views_picture vs n s x)
unfolding views_picture
two-views [] s x n l h w p = PictureInRange-nothing
two-views (v ∷ []) s x n l h w p = PictureInRange-followed _ _ (PictureInRange-as_part ids.AppFiles _ (view-here v s x n p.rect p.below p.first h.0)) PictureInRange-nothing
two-views (v ∷ (u ∷ [])) s x n l h w p =
    let columns = apply-columns (view_mask s x n) (box_rect (view_picture v s x n)) _ refl in
    let second = next-here x _ n s.rect.width p.first p.second w (omega (arith, columns)) in
    PictureInRange-followed _ _ (PictureInRange-as_part ids.AppFiles _ (view-here v s x n p.rect p.below p.first h.0))
    (PictureInRange-followed _ _ (PictureInRange-as_part ids.AppFiles _ (view-here u s (next_view v s x n) n p.rect p.below second h.1.0)) PictureInRange-nothing)
two-views (v ∷ (u ∷ (t ∷ vs))) s x n l h w p = absurd (omega (arith, l))

commits-taken : (k : ℕ) (vs : List CommitView) → AreShortCommits vs → AreShortCommits (take k vs)
commits-taken (suc k) (v ∷ vs) h = (h.0, commits-taken k vs h.1)
commits-taken _ _ h = tt

least-width : (w n : ℕ) → n ≤ w - 1 → min 120 n ≤ w
least-width w n h = omega (arith, h)

narrow-view : (mode : CommitViewMode) (w : ℕ) → view_width mode w ≤ w
narrow-view Inline w = omega arith
narrow-view Adjacent w = least-width w ((w - 1) / 2) (div-le_self (w - 1) 2)

asked-here : (q : Option QuitDialog) (s : Sight) → RectIsInDrawBounds s.rect → PictureInRange (quit_picture q s)
asked-here None s r = PictureInRange-nothing
asked-here (Some q) s r = PictureInRange-as_part ids.QuitDialog _ (quit-here q s r)

helped-here : (is_section_visible : Bool) (s : Sight) → RectIsInDrawBounds s.rect → PictureInRange (help_picture is_section_visible s)
helped-here false s r = PictureInRange-nothing
helped-here true s r = PictureInRange-as_part ids.HelpDialog _ (help-here s r)

app-here : (a : AppView) (s : Sight) (x y : ℤ) → AppIsInDrawBounds s x → IsShortApp a → PictureInRange (app_picture a s x y)
unfolding app_picture
app-here a s x y p h =
    PictureInRange-followed _ _
    (two-views (shown_views a) s x (view_width a.commit_view_mode s.rect.width) (few-views a.commit_view_mode a.commit_views) (commits-taken (view_count a.commit_view_mode) a.commit_views h.commits) (narrow-view a.commit_view_mode s.rect.width) p)
    (PictureInRange-followed _ _ (PictureInRange-as_part ids.MenuBar _ (bar-in a.menu_bar s x s.rect.y p.rect p.first p.rect.y h.menu_bar))
    (PictureInRange-followed _ _ (asked-here a.quit_dialog s p.rect) (helped-here (has_help a.help_dialog) s p.rect)))

-- ---- all of them

pub components-in : ComponentsAreInRange
unfolding line_picture commit_message_picture
components-in = record {
  boxes = box-here;
  buttons = button-here;
  headers = header-here;
  lines = λ v. inner-here v.inner;
  sections = section-here;
  files = file-here;
  messages = λ v. message-here v.commit_idx v.commit.now.message;
  commits = commit-here;
  menus = menu-in;
  bars = bar-in;
  dialogs = λ d s r h. dialog-here (shown_dialog d) s r (buttons-few d.buttons.now h);
  quit_dialogs = quit-here;
  help_dialogs = help-here;
  apps = app-here;
}
