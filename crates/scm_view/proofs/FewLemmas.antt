-- All that is shown inline begins no more rows than the screen has, and one more for the pinned header, and takes few calls.
use Rattle.std.proofs.Common.{◌≡◌, ◌∙◌, ℕ, zero, suc, ◌+◌, ◌*◌, ◌≤◌, List, [], ◌∷◌, ◌++◌, length, length-append, take, refl, arith, true, false, Bool, inl, inr}
use Rattle.std.specs.Prelude.{ℤ, pos, ◌+ℤ◌, ◌-ℤ◌, ◌≤ℤ◌, ◌<ℤ◌, min, ◌==◌, if◌then◌else◌, Option, Some, None}
use Rattle.std.proofs.lemmas.Int.{ints}
use Rattle.scm_cells.specs.Counts.{Counts, no_counts, plus, added}
use Rattle.scm_render.proofs.CountLemmas.{counts-most}
use Rattle.scm_cells.specs.Rect.{or_zero, end_y_of}
use Rattle.scm_cells.specs.declared.rect.Rect.{Rect}
use Rattle.scm_cells.proofs.RectLemmas.{places}
use Rattle.scm_render.specs.Canvas.{Sight, under}
use Rattle.scm_render.specs.Drawing.{has_row}
use Rattle.scm_render.proofs.DrawLemmas.{off_cases}
use Rattle.scm_view.specs.declared.app_view.AppView.{AppView}
use Rattle.scm_document.specs.declared.commit_view.CommitView.{CommitView}
use Rattle.scm_overlay.specs.declared.quit_dialog.QuitDialog.{QuitDialog}
use Rattle.scm_rows.specs.Heights.{message_height}
use Rattle.scm_document.specs.Rows.{DocRow, HeaderRow, ShownSection, ShownFile, Document, document_of, file_rows, sections_rows}
use Rattle.scm_document.specs.Pictures.{mask_row, is_pinned, no_files_place}
use Rattle.scm_widgets.specs.Counts.{drawn, on_row}
use Rattle.scm_document.specs.Counts.{row_calls, rows_counts, header_counts, sections_counts, file_counts, pinned_counts, files_counts, message_counts, document_counts}
use Rattle.scm_overlay.specs.Counts.{open_calls, bar_calls, quit_calls, help_calls}
use Rattle.scm_overlay.specs.Menus.{open_menu, open_menu_with_column}
use Rattle.scm_overlay.specs.Tables.{menus_with}
use Rattle.scm_widgets.specs.Screens.{sight}
use Rattle.scm_document.specs.declared.commit_view.CommitViewMode.TheVariants.{Inline}
use Rattle.scm_document.specs.ViewColumns.{view_mask, views_counts}
use Rattle.scm_view.specs.AppView.{has_help, app_counts}
use Rattle.scm_view.specs.Window.{IsFew, AppsTakeFewCalls}
use Rattle.scm_widgets.proofs.HiddenLemmas.{on_row-shown, on_row-hidden}

-- how many rows of the screen lie above a row of the document
abbrev before : Rect → ℤ → ℕ
before v y = min v.height (or_zero (y -ℤ v.y))

before-most : (v : Rect) (y : ℤ) → before v y ≤ v.height
before-most v y = omega arith

shown_bounds : (v : Rect) (y : ℤ) → has_row v y ≡ true → (v.y ≤ℤ y) × (y <ℤ end_y_of v)
shown_bounds v y e = (grind (arith, ints), grind (arith, ints))

one-more : (v : Rect) (y : ℤ) → v.y ≤ℤ y → y <ℤ end_y_of v → 1 + before v y ≡ before v (y +ℤ pos 1)
one-more v y p q = omega (arith, places)

none-above : (v : Rect) (y : ℤ) → y <ℤ v.y → before v y ≡ before v (y +ℤ pos 1)
none-above v y p = omega (arith, places)

none-below : (v : Rect) (y : ℤ) → end_y_of v ≤ℤ y → before v y ≡ before v (y +ℤ pos 1)
none-below v y p = omega (arith, places)

-- the counts of rows `y..z`: each row of the screen counts once, with at most four calls
record Few (v : Rect) (y z : ℤ) (c : Counts) : Type 0 where
  rows : c.rows + before v y ≡ before v z
  calls : c.calls ≤ 4 * c.rows

few-none : (v : Rect) (y : ℤ) → Few v y y no_counts
few-none v y = record { rows = omega arith; calls = omega arith }

few-plus : (v : Rect) (x y z : ℤ) (a b : Counts) → Few v x y a → Few v y z b → Few v x z (plus a b)
few-plus v x y z a b p q = record { rows = omega (arith, p.rows, q.rows); calls = omega (arith, p.calls, q.calls) }

few-row : (v : Rect) (y : ℤ) (n : ℕ) → n ≤ 4 → Few v y (y +ℤ pos 1) (on_row v y (drawn 1 n))
few-row v y n h = go (has_row v y) refl
  where
    go : (b : Bool) → has_row v y ≡ b → Few v y (y +ℤ pos 1) (on_row v y (drawn 1 n))
    go true e =
        let r = shown_bounds v y e in
        rw (on_row-shown v y (drawn 1 n) e) (record { rows = one-more v y r.0 r.1; calls = omega arith })
    go false e =
        let same : before v y ≡ before v (y +ℤ pos 1) = elim (off_cases v y e) [ inl h ↦ none-above v y h | inr h ↦ none-below v y h ] in
        rw (on_row-hidden v y (drawn 1 n) e) (record { rows = omega (arith, same); calls = omega arith })

few-calls : (r : DocRow) → row_calls r ≤ 4
few-calls (HeaderRow key h) = omega arith
few-calls _ = omega arith

few-to : (v : Rect) (x y z : ℤ) (c : Counts) → y ≡ z → Few v x y c → Few v x z c
few-to v x y z c e p = rw e at p

few-rows : (rs : List DocRow) (v : Rect) (y : ℤ) → Few v y (y +ℤ pos (length rs)) (rows_counts rs v y)
unfolding rows_counts
few-rows [] v y = few-to v y y (y +ℤ pos 0) no_counts (omega (arith, ints)) (few-none v y)
few-rows (r ∷ rs) v y =
    let same : (y +ℤ pos 1) +ℤ pos (length rs) ≡ y +ℤ pos (suc (length rs)) = omega (arith, ints) in
    few-to v y _ _ _ same (few-plus v y (y +ℤ pos 1) _ _ _ (few-row v y (row_calls r) (few-calls r)) (few-rows rs v (y +ℤ pos 1)))

few-sections : (ps : List ShownSection) (v : Rect) (y : ℤ) → Few v y (y +ℤ pos (length (sections_rows ps))) (sections_counts ps v y)
unfolding sections_counts sections_rows
few-sections [] v y = few-to v y y (y +ℤ pos 0) no_counts (omega (arith, ints)) (few-none v y)
few-sections (p ∷ ps) v y =
    let same : (y +ℤ pos (length p.rows)) +ℤ pos (length (sections_rows ps)) ≡ y +ℤ pos (length (p.rows ++ sections_rows ps)) = omega (arith, ints, length-append p.rows (sections_rows ps)) in
    few-to v y _ _ _ same (few-plus v y (y +ℤ pos (length p.rows)) _ _ _ (few-rows p.rows v y) (few-sections ps v (y +ℤ pos (length p.rows))))

few-file : (f : ShownFile) (v : Rect) (y : ℤ) → Few v y (y +ℤ pos (length (file_rows f))) (file_counts f v y)
unfolding file_counts file_rows
few-file f v y =
    let same : (y +ℤ pos 1) +ℤ pos (length (sections_rows f.sections)) ≡ y +ℤ pos (suc (length (sections_rows f.sections))) = omega (arith, ints) in
    few-to v y _ _ _ same (few-plus v y (y +ℤ pos 1) _ _ _ (few-row v y 4 (omega arith)) (few-sections f.sections v (y +ℤ pos 1)))

few-message : (m : Option (List ℕ)) (v : Rect) (y : ℤ) → Few v y (y +ℤ pos (message_height m)) (message_counts m v y)
unfolding message_counts
few-message None v y = few-to v y y (y +ℤ pos 0) no_counts (omega (arith, ints)) (few-none v y)
few-message (Some text) v y =
    let second : (y +ℤ pos 1) +ℤ pos 1 ≡ y +ℤ pos 2 = omega (arith, ints) in
    let third : (y +ℤ pos 2) +ℤ pos 1 ≡ y +ℤ pos 3 = omega (arith, ints) in
    few-plus v y (y +ℤ pos 1) (y +ℤ pos 3) _ _ (few-row v y 1 (omega arith))
    (few-plus v (y +ℤ pos 1) (y +ℤ pos 2) (y +ℤ pos 3) _ _ (few-to v _ _ _ _ second (few-row v (y +ℤ pos 1) 3 (omega arith))) (few-to v _ _ _ _ third (few-row v (y +ℤ pos 2) 1 (omega arith))))

-- ---- files, of which at most one is pinned

-- the counts of a document's rows from row `y` on: at most the screen's rows and `more`, with at most four calls each
record FewFrom (v : Rect) (y : ℤ) (more : ℕ) (c : Counts) : Type 0 where
  rows : c.rows + before v y ≤ v.height + more
  calls : c.calls ≤ 4 * c.rows

pinned-off : (row y : ℤ) (n : ℕ) → row ≤ℤ y → is_pinned row y n ≡ false
pinned-off row y n h = grind (arith, ints)

pinned-above : (row y : ℤ) (n : ℕ) → is_pinned row y n ≡ true → row ≤ℤ (y +ℤ pos n)
pinned-above row y n e = let below : row <ℤ (y +ℤ pos n) = grind (arith, ints) in omega (arith, ints, below)

-- a header alone
header-few : (v : Rect) (row : ℤ) → ((header_counts v row).rows ≤ 1) × ((header_counts v row).calls ≤ 4 * (header_counts v row).rows)
header-few v row = let f = few-row v row 4 (omega arith) in (most f, f.calls)
  where
    most : Few v row (row +ℤ pos 1) (header_counts v row) → (header_counts v row).rows ≤ 1
    most f = omega (arith, places, f.rows)

pinned-none : (f : ShownFile) (v : Rect) (row y : ℤ) → is_pinned row y (length (file_rows f)) ≡ false → pinned_counts f v row y ≡ no_counts
unfolding pinned_counts
pinned-none f v row y e = rw e refl

pinned-is : (f : ShownFile) (v : Rect) (row y : ℤ) → is_pinned row y (length (file_rows f)) ≡ true → pinned_counts f v row y ≡ header_counts v row
unfolding pinned_counts
pinned-is f v row y e = rw e refl

files-before : (fs : List ShownFile) (v : Rect) (row y : ℤ) → row ≤ℤ y → FewFrom v y 0 (files_counts fs v row y)
unfolding files_counts
files-before [] v row y h = record { rows = omega (arith, before-most v y); calls = omega arith }
files-before (f ∷ fs) v row y h =
    let n = length (file_rows f) in
    let own = few-file f v y in
    let rest = files-before fs v row (y +ℤ pos n) (omega (arith, ints)) in
    rw (pinned-none f v row y (pinned-off row y n h)) (record { rows = omega (arith, own.rows, rest.rows); calls = omega (arith, own.calls, rest.calls) })

files-few : (fs : List ShownFile) (v : Rect) (row y : ℤ) → FewFrom v y 1 (files_counts fs v row y)
unfolding files_counts
files-few [] v row y = record { rows = omega (arith, before-most v y); calls = omega arith }
files-few (f ∷ fs) v row y = go (is_pinned row y (length (file_rows f))) refl (files-few fs v row (y +ℤ pos (length (file_rows f))))
  where
    n : ℕ
    n = length (file_rows f)

    go : (b : Bool) → is_pinned row y n ≡ b → FewFrom v (y +ℤ pos n) 1 (files_counts fs v row (y +ℤ pos n)) → FewFrom v y 1 (plus (plus (file_counts f v y) (pinned_counts f v row y)) (files_counts fs v row (y +ℤ pos n)))
    go true e more =
        let own = few-file f v y in
        let header = header-few v row in
        let rest = files-before fs v row (y +ℤ pos n) (pinned-above row y n e) in
        rw (pinned-is f v row y e) (record { rows = omega (arith, own.rows, header.0, rest.rows); calls = omega (arith, own.calls, header.1, rest.calls) })
    go false e more =
        let own = few-file f v y in
        rw (pinned-none f v row y e) (record { rows = omega (arith, own.rows, more.rows); calls = omega (arith, own.calls, more.calls) })

-- ---- a document

document-few : (d : Document) (s : Sight) (y : ℤ) → FewFrom s.rect y 1 (document_counts d s y)
unfolding document_counts
document-few d s y = go (length d.files == 0) refl
  where
    v : Rect
    v = s.rect

    below : ℤ
    below = y +ℤ pos (message_height d.message)

    go : (b : Bool) → (length d.files == 0) ≡ b → FewFrom v y 1 (plus (message_counts d.message v y) (if b then on_row v (y +ℤ (no_files_place s).y) (drawn 1 1) else files_counts d.files v (mask_row s) below))
    go true e =
        let message = few-message d.message v y in
        let words = few-row v (y +ℤ (no_files_place s).y) 1 (omega arith) in
        let one = row-most v (y +ℤ (no_files_place s).y) 1 in
        record { rows = omega (arith, message.rows, one, before-most v below); calls = omega (arith, message.calls, words.calls) }
      where
        row-most : (v : Rect) (z : ℤ) (n : ℕ) → (on_row v z (drawn 1 n)).rows ≤ 1
        row-most v z n = (elim (has_row v z) as (λ b. has_row v z ≡ b → (on_row v z (drawn 1 n)).rows ≤ 1) [ true ↦ (λ k. rw (on_row-shown v z (drawn 1 n) k) (omega arith)) | false ↦ (λ k. rw (on_row-hidden v z (drawn 1 n) k) (omega arith)) ]) refl
    go false e =
        let message = few-message d.message v y in
        let files = files-few d.files v (mask_row s) below in
        record { rows = omega (arith, message.rows, files.rows); calls = omega (arith, message.calls, files.calls) }

-- ---- all that is shown

-- an open menu has at most nine items
menu-few : (k : Option ℕ) → open_calls (open_menu (menus_with k)) ≤ 18
unfolding open_menu_with_column
menu-few None = omega arith
menu-few (Some zero) = omega arith
menu-few (Some (suc zero)) = omega arith
menu-few (Some (suc (suc zero))) = omega arith
menu-few (Some (suc (suc (suc zero)))) = omega arith
menu-few (Some (suc (suc (suc (suc n))))) = omega arith

bar-few : (m : Option ℕ) → bar_calls (menus_with m) ≤ 23
unfolding bar_calls
bar-few m = omega (arith, menu-few m)

quit-few : (q : Option QuitDialog) → quit_calls q ≤ 3
quit-few None = omega arith
quit-few (Some q) = omega arith

help-few : (b : Bool) → help_calls b ≤ 2
help-few true = omega arith
help-few false = omega arith

one-view : (vs : List CommitView) (n : ℕ) (s : Sight) (x : ℤ) → ((views_counts (take 1 vs) n s x).rows ≤ s.rect.height + 1) × ((views_counts (take 1 vs) n s x).calls ≤ 4 * (views_counts (take 1 vs) n s x).rows)
unfolding views_counts
one-view [] n s x = (omega arith, omega arith)
one-view (v ∷ vs) n s x =
    let f = document-few (document_of v) (under (view_mask s x n) s) (pos 1) in
    (omega (arith, f.rows), omega (arith, f.calls))

-- whatever document is shown inline
few-inline : (menu : Option ℕ) (quit : Option QuitDialog) (open_help : Bool) (a : AppView) (w h s : ℕ) → a.commit_view_mode ≡ Inline → a.menu_bar ≡ menus_with menu → a.quit_dialog ≡ quit → has_help a.help_dialog ≡ open_help
    → IsFew h (app_counts a (sight w h s) (pos 0))
unfolding app_counts
few-inline menu quit open_help a w h s inline bar_is quit_is help_is =
    let view = one-view a.commit_views w (sight w h s) (pos 0) in
    let bar = bar-few menu in
    let leaving = quit-few quit in
    let help = help-few open_help in
    rw (inline, bar_is, quit_is, help_is)
    (record { rows = omega (arith, view.0); calls = omega (arith, view.0, view.1, bar, leaving, help) })

pub few-on_grid : (menu : Option ℕ) (quit : Option QuitDialog) (open_help : Bool) (a : AppView) (w h s : ℕ) → a.commit_view_mode ≡ Inline → a.menu_bar ≡ menus_with menu → a.quit_dialog ≡ quit → has_help a.help_dialog ≡ open_help
    → IsFew h (app_counts a (sight w h s) (pos 0)) × IsFew h (added no_counts (app_counts a (sight w h s) (pos 0)))
few-on_grid menu quit open_help a w h s inline bar_is quit_is help_is =
    let few = few-inline menu quit open_help a w h s inline bar_is quit_is help_is in
    let counted = counts-most (added no_counts (app_counts a (sight w h s) (pos 0))) (app_counts a (sight w h s) (pos 0)) refl in
    (few, record { rows = omega (arith, few.rows, counted.0); calls = omega (arith, few.calls, counted.1) })

pub few-calls-inline : AppsTakeFewCalls
few-calls-inline shown a w h s plain =
    few-on_grid shown.open_menu shown.quit_dialog shown.is_help_open a w h s (plain.shows.view_mode ∙ plain.view_mode) plain.shows.menu_bar plain.shows.quit_dialog plain.shows.help_dialog
