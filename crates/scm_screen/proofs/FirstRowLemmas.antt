-- The menu bar hides what a document shows on the first row of the screen, and a pinned header the row below, so these need not be painted.
use Rattle.std.proofs.Common.{◌≡◌, ℕ, zero, suc, ◌+◌, ◌≤◌, ◌==◌, Bool, true, false, List, [], ◌∷◌, ◌++◌, length, take, drop, refl, sym, ap, ap₂, ◌∙◌, arith, replicate, Option, Some, None, cond}
use Rattle.std.specs.Prelude.{if◌then◌else◌, is_some, option_map}
use Rattle.std.proofs.lemmas.Bool.Decides.{nat_tests}
use Rattle.std.proofs.lemmas.List.{length-replicate}
use Rattle.scm_render.specs.Canvas.{Row}
use Rattle.scm_widgets.specs.Blanks.{blank_row}
use Rattle.scm_widgets.specs.Layers.{shown_by}
use Rattle.scm_document.specs.FilesRows.{files_rows}
use Rattle.scm_document.specs.Rows.{Document, ShownFile}
use Rattle.scm_overlay.specs.Overlays.{overlays, quit_layers, help_layers}
use Rattle.scm_overlay.specs.Tables.{menus_with}
use Rattle.scm_strips.specs.Shows.{WordsRow, whole}
use Rattle.scm_view.specs.ViewState.{ViewState}
use Rattle.scm_view.proofs.WindowLemmas.{blank-length, first-keeps, hides}
use Rattle.scm_screen.specs.DocumentRows.{each_row, file_over, first_file_row, header_of, painted_rows, pinned_on, row_over, row_shown, with_document, with_shown, words_row}
use Rattle.scm_screen.proofs.EachLemmas.{each-twice}
use Rattle.scm_screen.proofs.HeaderHidesLemmas.{heading-hides}
use Rattle.scm_screen.proofs.MessageLemmas.{none_in}
use Rattle.scm_screen.proofs.RowLawLemmas.{rows-show-inline}

-- ---- the first row keeps its length

both-long : (w h s : ℕ) (d : Document) (row : Row) → 10 ≤ w → length row ≡ w → length (with_document (whole w) h s d s row) ≡ w
both-long w h s d row wide e = ap (λ (r : Row). length r) (rows-show-inline w h s s d row wide) ∙ first-keeps w h s d row e

-- a document without rows
abbrev bare : Document
bare = record { commit = 0; message = None; files = [] }

bare-shown : (w h s : ℕ) (row : Row) → with_document (whole w) h s bare s row ≡ with_shown (whole w) (row_over h s bare s) row
unfolding files_rows
bare-shown w h s row = ap (λ o. with_shown (whole w) (row_over h s bare s) (with_shown (whole w) o row)) (none_in s)

over-long : (w h s : ℕ) (d : Document) (row : Row) → 10 ≤ w → length row ≡ w → length (with_shown (whole w) (row_over h s d s) row) ≡ w
over-long w h s d row wide e = go (length d.files == 0)
  where
    go : (b : Bool) → length (with_shown (whole w) (cond b (if s == words_row h then Some WordsRow else None) (if s == s + 1 then pinned_on d (s + 1) else None)) row) ≡ w
    go true = ap (λ (r : Row). length r) (sym (bare-shown w h s row)) ∙ both-long w h s bare row wide e
    go false =
        let other : (s == s + 1) ≡ false = grind (arith, nat_tests) in
        rw other e

-- ---- the row under a pinned header

some-file : (m top : ℕ) (fs : List ShownFile) (f : ShownFile) → file_over m top fs ≡ Some f → (length fs == 0) ≡ false
unfolding file_over
some-file m top [] f e = absurd (cc e)
some-file m top (g ∷ gs) f e = grind (arith, nat_tests)

-- a row of a document with files keeps its length
shown-long : (w h z : ℕ) (d : Document) (row : Row) → 10 ≤ w → length row ≡ w → (length d.files == 0) ≡ false → length (with_shown (whole w) (row_shown d z) row) ≡ w
shown-long w h z d row wide e files =
    let other : (z == z + 1) ≡ false = grind (arith, nat_tests) in
    let none : row_over h z d z ≡ None =
    ap (λ b. cond b (if z == words_row h then Some WordsRow else None) (if z == z + 1 then pinned_on d (z + 1) else None)) files
    ∙ ap (λ b. if b then pinned_on d (z + 1) else None) other in
    ap (λ o. length (with_shown (whole w) o (with_shown (whole w) (row_shown d z) row))) (sym none) ∙ both-long w h z d row wide e

-- it shows nothing of the document's row
pinned-hides : (w h s z : ℕ) (d : Document) (row : Row) → 10 ≤ w → length row ≡ w → z ≡ s + 1 → is_some (pinned_on d (s + 1)) ≡ true
    → with_shown (whole w) (row_over h s d z) row ≡ with_document (whole w) h s d z row
pinned-hides w h s z d row wide long here some = go (file_over (s + 1) (first_file_row d) d.files) refl
  where
    go : (o : Option ShownFile) → file_over (s + 1) (first_file_row d) d.files ≡ o
        → with_shown (whole w) (row_over h s d z) row ≡ with_shown (whole w) (row_over h s d z) (with_shown (whole w) (row_shown d z) row)
    go None e = let no = sym some ∙ ap (λ (o : Option ShownFile). is_some (option_map header_of o)) e in absurd (cc no)
    go (Some f) e =
        let files = some-file (s + 1) (first_file_row d) d.files f e in
        let same : (z == s + 1) ≡ true = grind (arith, nat_tests, here) in
        let over : row_over h s d z ≡ Some (header_of f) =
        ap (λ b. cond b (if z == words_row h then Some WordsRow else None) (if z == s + 1 then pinned_on d (s + 1) else None)) files
        ∙ ap (λ b. if b then pinned_on d (s + 1) else None) same
        ∙ ap (option_map header_of) e in
        rw over (heading-hides w f.heading row (with_shown (whole w) (row_shown d z) row) (omega (arith, wide)) long (shown-long w h z d row wide long files))

-- ---- the screen

-- row n of the document and the rows below it
abbrev shown_from : ℕ → Document → ℕ → List Row → List Row
shown_from w d n rows = each_row (λ (z : ℕ) (row : Row). with_shown (whole w) (row_shown d z) row) n rows

-- what lies over them
abbrev over_from : ℕ → ℕ → ℕ → Document → ℕ → List Row → List Row
over_from w h s d n rows = each_row (λ (z : ℕ) (row : Row). with_shown (whole w) (row_over h s d z) row) n rows

first-hidden : (w h s : ℕ) (d : Document) (shown : ViewState) → 10 ≤ w → 1 ≤ h
    → each_row (shown_by (overlays w h s shown.open_menu shown.quit_dialog shown.is_help_open)) s
    (over_from w h s d s (take 1 (replicate h (blank_row w)) ++ shown_from w d (s + 1) (drop 1 (replicate h (blank_row w)))))
    ≡ each_row (shown_by (overlays w h s shown.open_menu shown.quit_dialog shown.is_help_open)) s (painted_rows (whole w) s d (replicate h (blank_row w)))
unfolding each_row painted_rows
first-hidden w zero s d shown wide some = absurd (omega (arith, some))
first-hidden w (suc n) s d shown wide some =
    let h = suc n in
    let blank = blank_row w in
    let below = replicate n blank in
    let over = shown_by (overlays w h s shown.open_menu shown.quit_dialog shown.is_help_open) in
    let next : s + 1 ≡ suc s = omega arith in
    let high : length (replicate h blank) ≡ h = length-replicate h blank in
    ap₂ (λ (r : Row) (rs : List Row). r ∷ each_row over (suc s) rs)
    (hides w s (menus_with shown.open_menu) (quit_layers w h s shown.quit_dialog ++ help_layers w h s shown.is_help_open) _ _
    (over-long w h s d blank wide (blank-length w)) (both-long w h s d blank wide (blank-length w)))
    (ap (λ k. over_from w h s d (suc s) (shown_from w d k below)) next
    ∙ each-twice (λ (z : ℕ) (row : Row). with_shown (whole w) (row_shown d z) row) (λ (z : ℕ) (row : Row). with_shown (whole w) (row_over h s d z) row) (suc s) below)
    ∙ ap (λ k. each_row over s (each_row (with_document (whole w) k s d) s (replicate h blank))) (sym high)

two-hidden : (w h s : ℕ) (d : Document) (shown : ViewState) → 10 ≤ w → 2 ≤ h → is_some (pinned_on d (s + 1)) ≡ true
    → each_row (shown_by (overlays w h s shown.open_menu shown.quit_dialog shown.is_help_open)) s
    (over_from w h s d s (take 2 (replicate h (blank_row w)) ++ shown_from w d (s + 2) (drop 2 (replicate h (blank_row w)))))
    ≡ each_row (shown_by (overlays w h s shown.open_menu shown.quit_dialog shown.is_help_open)) s (painted_rows (whole w) s d (replicate h (blank_row w)))
unfolding each_row painted_rows
two-hidden w zero s d shown wide some pinned = absurd (omega (arith, some))
two-hidden w (suc zero) s d shown wide some pinned = absurd (omega (arith, some))
two-hidden w (suc (suc n)) s d shown wide some pinned =
    let h = suc (suc n) in
    let blank = blank_row w in
    let below = replicate n blank in
    let over = shown_by (overlays w h s shown.open_menu shown.quit_dialog shown.is_help_open) in
    let second : suc s ≡ s + 1 = omega arith in
    let next : s + 2 ≡ suc (suc s) = omega arith in
    let high : length (replicate h blank) ≡ h = length-replicate h blank in
    ap₂ (λ (r : Row) (rs : List Row). r ∷ rs)
    (hides w s (menus_with shown.open_menu) (quit_layers w h s shown.quit_dialog ++ help_layers w h s shown.is_help_open) _ _
    (over-long w h s d blank wide (blank-length w)) (both-long w h s d blank wide (blank-length w)))
    (ap₂ (λ (r : Row) (rs : List Row). over (suc s) r ∷ each_row over (suc (suc s)) rs)
    (pinned-hides w h s (suc s) d blank wide (blank-length w) second pinned)
    (ap (λ k. over_from w h s d (suc (suc s)) (shown_from w d k below)) next
    ∙ each-twice (λ (z : ℕ) (row : Row). with_shown (whole w) (row_shown d z) row) (λ (z : ℕ) (row : Row). with_shown (whole w) (row_over h s d z) row) (suc (suc s)) below))
    ∙ ap (λ k. each_row over s (each_row (with_document (whole w) k s d) s (replicate h blank))) (sym high)

-- the rows of the document that are painted: those below the menu bar, or below a pinned header
pub rows-hidden : (w h s first : ℕ) (d : Document) (shown : ViewState) → 10 ≤ w → 2 ≤ h → first ≡ (if is_some (pinned_on d (s + 1)) then 2 else 1)
    → each_row (shown_by (overlays w h s shown.open_menu shown.quit_dialog shown.is_help_open)) s
    (over_from w h s d s (take first (replicate h (blank_row w)) ++ shown_from w d (s + first) (drop first (replicate h (blank_row w)))))
    ≡ each_row (shown_by (overlays w h s shown.open_menu shown.quit_dialog shown.is_help_open)) s (painted_rows (whole w) s d (replicate h (blank_row w)))
rows-hidden w h s first d shown wide high e = go (is_some (pinned_on d (s + 1))) refl
  where
    go : (b : Bool) → is_some (pinned_on d (s + 1)) ≡ b
        → each_row (shown_by (overlays w h s shown.open_menu shown.quit_dialog shown.is_help_open)) s
        (over_from w h s d s (take first (replicate h (blank_row w)) ++ shown_from w d (s + first) (drop first (replicate h (blank_row w)))))
        ≡ each_row (shown_by (overlays w h s shown.open_menu shown.quit_dialog shown.is_help_open)) s (painted_rows (whole w) s d (replicate h (blank_row w)))
    go true p =
        let two : first ≡ 2 = e ∙ ap (λ (b : Bool). if b then 2 else 1) p in
        rw two (two-hidden w h s d shown wide high p)
    go false p =
        let one : first ≡ 1 = e ∙ ap (λ (b : Bool). if b then 2 else 1) p in
        rw one (first-hidden w h s d shown wide (omega (arith, high)))
