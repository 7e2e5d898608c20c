-- Rows that are updated one after another.
use Rattle.std.proofs.Common.{◌≡◌, ℕ, ◌+◌, ◌<◌, Bool, true, false, not, ◌&&◌, nat_lt, List, [], ◌∷◌, ◌++◌, length, take, drop, get_or, set, map, refl, sym, ap, subst, ◌∙◌, arith}
use Rattle.std.specs.Bool.{IsTrue}
use Rattle.std.specs.List.{AllZip, range_with_len}
use Rattle.std.proofs.lemmas.Bool.{ltb-true}
use Rattle.std.proofs.lemmas.List.{length-map, get_or-map, map-set, get_or-drop, drop-drop, drop-set-lt, take_more, take_more_set, take_all}
use Rattle.std.proofs.lemmas.List.Edits.{fill_by_more}
use Rattle.std.proofs.lemmas.List.FromFn.{fill_by_all, get_or-range_with_len, length-map-range_with_len, length-range_with_len}
use Rattle.scm_cells.specs.Screen.{Screen}
use Rattle.scm_cells.specs.declared.style.Style.{Style}
use Rattle.scm_terminal.specs.StyledCell.{AreSameBefore, StyledCell, HasSize, picture, styled_row}
use Rattle.scm_terminal.specs.Painting.{Line, IsUpdate, AreUpdates}
use Rattle.scm_terminal.specs.declared.row.Row.{Row}
use Rattle.scm_terminal.specs.RowView.{line_of}
use Rattle.scm_terminal.specs.PainterView.{cells_of_row}

abbrev pub line_cells : Line → List StyledCell
line_cells line = line.cells

AllZip-push : {A B : Type 0} (R : A → B → Type 0) (xs : List A) (ys : List B) (x : A) (y : B) → AllZip R xs ys → R x y → AllZip R (xs ++ x ∷ []) (ys ++ y ∷ [])
AllZip-push R [] [] x y h r = (r, tt)
AllZip-push R [] (b ∷ ys) x y h r = absurd h
AllZip-push R (a ∷ xs) [] x y h r = absurd h
AllZip-push R (a ∷ xs) (b ∷ ys) x y h r = (h.0, AllZip-push R xs ys x y h.1 r)

-- the first `i` of these lines were updated, and the others show what they showed before
pub record Updated (f : ℕ → List StyledCell) (is_all : Bool) (olds : List (List StyledCell)) (lines : List Line) (i : ℕ) : Type 0 where
  pub shown : (k : ℕ) → k < i → get_or (map line_cells lines) k [] ≡ f k
  pub rest : drop i (map line_cells lines) ≡ drop i olds
  pub changed : AllZip (IsUpdate is_all) (take i olds) (take i lines)

pub Updated-none : (f : ℕ → List StyledCell) (is_all : Bool) (olds : List (List StyledCell)) (lines : List Line) → map line_cells lines ≡ olds → Updated f is_all olds lines 0
Updated-none f is_all olds lines e = record { shown = λ k h. absurd (omega arith); rest = e; changed = tt }

pub Updated-more : (f : ℕ → List StyledCell) (is_all : Bool) (olds : List (List StyledCell)) (lines : List Line) (i : ℕ) (before : List StyledCell) (line : Line)
    → i < length lines → length olds ≡ length lines → Updated f is_all olds lines i
    → before ≡ get_or (map line_cells lines) i [] → line.cells ≡ f i → IsUpdate is_all before line
    → Updated f is_all olds (set lines i line) (i + 1)
Updated-more f is_all olds lines i before line h same u was shows updates =
    let cells = map line_cells lines in
    let size : length cells ≡ length lines = length-map lines line_cells in
    let within : i < length cells = omega arith in
    let written : map line_cells (set lines i line) ≡ set cells i (f i) = map-set line_cells lines i line ∙ ap (set cells i) shows in
    let tail : drop (i + 1) cells ≡ drop (i + 1) olds = sym (drop-drop 1 i cells) ∙ ap (drop 1) u.rest ∙ drop-drop 1 i olds in
    let zero_more : i + 0 ≡ i = omega arith in
    let here : get_or cells i [] ≡ get_or olds i [] = ap (λ n. get_or cells n []) (sym zero_more) ∙ sym (get_or-drop i cells 0 []) ∙ ap (λ xs. get_or xs 0 []) u.rest ∙ get_or-drop i olds 0 [] ∙ ap (λ n. get_or olds n []) zero_more in
    let olds_more : take (i + 1) olds ≡ take i olds ++ get_or olds i [] ∷ [] = take_more olds i [] (omega arith) in
    let lines_more : take (i + 1) (set lines i line) ≡ take i lines ++ line ∷ [] = take_more_set lines i line h in
    record {
      shown = λ k below. ap (λ xs. get_or xs k []) written ∙ fill_by_more f cells i [] within u.shown k below;
      rest = ap (drop (i + 1)) written ∙ drop-set-lt (i + 1) cells i (f i) (omega arith) ∙ tail;
      changed = subst (λ xs. AllZip (IsUpdate is_all) xs (take (i + 1) (set lines i line))) (sym olds_more)
          (subst (λ ys. AllZip (IsUpdate is_all) (take i olds ++ get_or olds i [] ∷ []) ys) (sym lines_more)
          (AllZip-push (IsUpdate is_all) (take i olds) (take i lines) (get_or olds i []) line u.changed (subst (λ b. IsUpdate is_all b line) (was ∙ here) updates)));
    }

pub updated-shown : (f : ℕ → List StyledCell) (is_all : Bool) (olds : List (List StyledCell)) (lines : List Line) (n : ℕ) → length lines ≡ n → Updated f is_all olds lines n
    → map line_cells lines ≡ map f (range_with_len 0 n)
updated-shown f is_all olds lines n e u = fill_by_all f (map line_cells lines) n [] (length-map lines line_cells ∙ e) u.shown

pub updated-changed : (f : ℕ → List StyledCell) (is_all : Bool) (olds : List (List StyledCell)) (lines : List Line) (n : ℕ) → length lines ≡ n → length olds ≡ n → Updated f is_all olds lines n
    → AreUpdates is_all olds lines
updated-changed f is_all olds lines n e g u =
    subst (λ xs. AllZip (IsUpdate is_all) xs lines) (take_all n olds (omega arith)) (subst (λ ys. AllZip (IsUpdate is_all) (take n olds) ys) (take_all n lines (omega arith)) u.changed)

-- ---- the rows as lines

pub cells-lines : (rows : List Row) → map line_cells (map line_of rows) ≡ map cells_of_row rows
cells-lines [] = refl
cells-lines (row ∷ rows) = ap (λ t. cells_of_row row ∷ t) (cells-lines rows)

-- what the next row shows is what it showed
pub before-is : (f : ℕ → List StyledCell) (is_all : Bool) (olds : List (List StyledCell)) (lines : List Line) (i : ℕ) → Updated f is_all olds lines i
    → get_or (map line_cells lines) i [] ≡ get_or olds i []
before-is f is_all olds lines i u =
    let cells = map line_cells lines in
    let zero_more : i + 0 ≡ i = omega arith in
    ap (λ n. get_or cells n []) (sym zero_more) ∙ sym (get_or-drop i cells 0 []) ∙ ap (λ xs. get_or xs 0 []) u.rest ∙ get_or-drop i olds 0 [] ∙ ap (λ n. get_or olds n []) zero_more

pub line-read : (rows : List Row) (i : ℕ) (row : Row) → i < length rows → row ≡ get_or rows i row → cells_of_row row ≡ get_or (map line_cells (map line_of rows)) i []
line-read rows i row h read =
    ap cells_of_row read ∙ sym (get_or-map cells_of_row rows i row [] h) ∙ ap (λ xs. get_or xs i []) (sym (cells-lines rows))

pub wide-at : (width n i : ℕ) (olds : List (List StyledCell)) → HasSize width n olds → i < n → length (get_or olds i []) ≡ width
wide-at width n i olds size h = let high = size.high in size.all_wide i [] (omega arith)

-- a row before the first that may differ shows what the picture has there
pub same-at : (style : ℕ → ℕ → Style) (grid : Screen) (first i : ℕ) (olds : List (List StyledCell)) (cells : List StyledCell) → HasSize grid.width (length grid.rows) olds
    → AreSameBefore first grid.width olds (picture style grid) → i < first → i < length grid.rows → cells ≡ get_or olds i [] → cells ≡ styled_row style grid i
same-at style grid first i olds cells size same below within is =
    let high : length (picture style grid) ≡ length grid.rows = length-map-range_with_len (styled_row style grid) 0 (length grid.rows) in
    let ranged : i < length (range_with_len 0 (length grid.rows)) = subst (λ (n : ℕ). i < n) (sym (length-range_with_len 0 (length grid.rows))) within in
    is ∙ same (subst (λ (n : ℕ). HasSize grid.width n olds) (sym high) size) i below (subst (λ (n : ℕ). i < n) (sym high) within)
    ∙ get_or-map (styled_row style grid) (range_with_len 0 (length grid.rows)) i 0 [] ranged
    ∙ ap (styled_row style grid) (get_or-range_with_len 0 (length grid.rows) i 0 within ∙ omega arith)

-- as the code asks for it
pub same-in : (style : ℕ → ℕ → Style) (grid : Screen) (is_all : Bool) (row first i : ℕ) (olds : List (List StyledCell)) (cells : List StyledCell)
    → HasSize grid.width (length grid.rows) olds → (is_all ≡ false → AreSameBefore first grid.width olds (picture style grid)) → row ≡ i → i < length grid.rows
    → cells ≡ get_or olds i [] → IsTrue (not is_all && nat_lt row first) → cells ≡ styled_row style grid row
same-in style grid true row first i olds cells size same at within is t = absurd (cc t)
same-in style grid false row first i olds cells size same at within is t =
    let below : row < first = ltb-true row first t in
    same-at style grid first i olds cells size (same refl) (omega arith) within is ∙ ap (styled_row style grid) (sym at)
