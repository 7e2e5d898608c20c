-- Inline the screen of a session in its styles is the window in its styles.
use Rattle.std.proofs.Common.{◌≡◌, ℕ, zero, suc, ◌+◌, ◌<◌, ◌≤◌, true, false, nat_lt, List, ◌∷◌, map, length, set, get_or, Option, Some, sym, ap, ◌∙◌, ⊎_elim, refl, arith}
use Rattle.std.proofs.lemmas.Bool.{cases_eq}
use Rattle.std.proofs.lemmas.Bool.Decides.{nat_tests}
use Rattle.std.proofs.lemmas.List.{get_or-set_same, get_or-set_other}
use Rattle.std.specs.Prelude.{nat_le}
use Rattle.std.specs.List.{range_with_len}
use Rattle.scm_cells.specs.Cell.{Cell}
use Rattle.scm_cells.specs.Counts.{no_counts}
use Rattle.scm_cells.specs.Screen.{Screen}
use Rattle.scm_cells.specs.Symbols.{symbol_at}
use Rattle.scm_cells.specs.declared.style.Style.{Style}
use Rattle.scm_terminal.specs.StyledCell.{picture, cell_at, cell_of, styled_row}
use Rattle.scm_types.specs.Limits.{max_scroll}
use Rattle.scm_types.specs.declared.keys.LineKey.{LineKey}
use Rattle.scm_types.specs.declared.keys.SelectionKey.TheVariants as keys
use Rattle.scm_document.specs.PieceOwners.{line_owner}
use Rattle.scm_widgets.specs.declared.ids.ComponentId.{ComponentId}
use Rattle.scm_widgets.specs.declared.ids.ComponentId.TheVariants as ids
use Rattle.scm_view_state.specs.Styles.{style_of}
use Rattle.scm_record.specs.Frames.{columns_of, rows_of}
use Rattle.scm_record.specs.Headline.{IsInline}
use Rattle.scm_record.specs.Live.{Live}
use Rattle.scm_record.specs.Painted.{style_at, screen_of, picture_of, window_style_at, window_picture_of}
use Rattle.scm_record.proofs.LiveLemmas.{inline-owner, inline-window}

-- ---- styles of a row, run by run

pub fill-more : (xs : List Style) (from i : ℕ) (s d : Style) → i < length xs → ((k : ℕ) → from ≤ k → k < i → get_or xs k d ≡ s) → (k : ℕ) → from ≤ k → k < i + 1 → get_or (set xs i s) k d ≡ s
fill-more xs from i s d within h k low high = ⊎_elim
    (λ e. ap (λ n. get_or (set xs i s) n d) e ∙ get_or-set_same xs i s d within)
    (λ n. get_or-set_other xs i k s d n ∙ h k low (omega arith))
    (cases_eq k i)

pub fill-keeps : (xs : List Style) (from i : ℕ) (s d : Style) → from ≤ i → (k : ℕ) → k < from → get_or (set xs i s) k d ≡ get_or xs k d
fill-keeps xs from i s d low k before = ⊎_elim
    (λ e. absurd (omega arith))
    (λ n. get_or-set_other xs i k s d n)
    (cases_eq k i)

-- ---- the columns of a changed line

pub before-box : (k : LineKey) (x : ℕ) → x < 4 → Some (line_owner k x) ≡ Some (ids.SelectableItem (keys.Line k))
before-box k x h = let low : nat_le 4 x ≡ false = grind (arith, nat_tests) in rw low refl

pub in-box : (k : LineKey) (x : ℕ) → 4 ≤ x → x < 7 → Some (line_owner k x) ≡ Some (ids.ToggleBox (keys.Line k))
in-box k x h g =
    let low : nat_le 4 x ≡ true = grind (arith, nat_tests) in
    let high : nat_lt x 7 ≡ true = grind (arith, nat_tests) in
    rw (low, high) refl

pub behind-box : (k : LineKey) (x : ℕ) → 7 ≤ x → Some (line_owner k x) ≡ Some (ids.SelectableItem (keys.Line k))
behind-box k x h =
    let low : nat_le 4 x ≡ true = grind (arith, nat_tests) in
    let high : nat_lt x 7 ≡ false = grind (arith, nat_tests) in
    rw (low, high) refl

-- ---- pictures

-- a function of numbers depends on what it is of these
map-same : {X : Type 0} (f g : ℕ → X) (a n : ℕ) → ((i : ℕ) → a ≤ i → i < a + n → f i ≡ g i) → map f (range_with_len a n) ≡ map g (range_with_len a n)
map-same f g a zero h = refl
map-same f g a (suc n) h =
    let first = h a (omega arith) (omega arith) in
    let more = map-same f g (a + 1) n (λ i low high. h i (omega (arith, low)) (omega (arith, high))) in
    ap (λ x. x ∷ map f (range_with_len (a + 1) n)) first ∙ ap (λ list. g a ∷ list) more

-- pictures of the same rows are the same, if the styles of their places are
picture-same : (f g : ℕ → ℕ → Style) (width : ℕ) (rows : List (List Cell))
    → ((row column : ℕ) → row < length rows → column < width → f row column ≡ g row column)
    → picture f (record { width = width; rows = rows; counts = no_counts }) ≡ picture g (record { width = width; rows = rows; counts = no_counts })
picture-same f g width rows h =
    let grid : Screen = record { width = width; rows = rows; counts = no_counts } in
    map-same (styled_row f grid) (styled_row g grid) 0 (length rows) (λ row low high.
    map-same (cell_at f grid row) (cell_at g grid row) 0 width (λ column low' high'.
    ap (cell_of (symbol_at rows row column)) (h row column (omega (arith, high)) (omega (arith, high')))))

-- nothing of a grid counts but its size and its rows
pub picture-of-grid : (f : ℕ → ℕ → Style) (grid : Screen) (width : ℕ) (rows : List (List Cell)) → grid.width ≡ width → grid.rows ≡ rows
    → picture f grid ≡ picture f (record { width = width; rows = rows; counts = no_counts })
picture-of-grid f grid width rows e g =
    ap (λ (w : ℕ). picture f (record { width = w; rows = grid.rows; counts = no_counts })) e
    ∙ ap (λ (list : List (List Cell)). picture f (record { width = width; rows = list; counts = no_counts })) g

-- inline, by the owner of the place
pub inline-style : (l : Live) (row column : ℕ) → IsInline l.kind l.session → l.session.scroll ≤ max_scroll
    → row < rows_of l.kind → column < columns_of l.kind → style_at l row column ≡ window_style_at l row column
inline-style l row column inline low is_row is_column =
    ap (λ (o : Option ComponentId). style_of l.session.shown row o) (inline-owner l.kind l.session row column inline low is_row is_column)

pub inline-picture : (l : Live) → length (screen_of l).rows ≡ rows_of l.kind → l.session.scroll ≤ max_scroll
    → IsInline l.kind l.session → picture_of l ≡ window_picture_of l
inline-picture l high low inline =
    picture-same (style_at l) (window_style_at l) (columns_of l.kind) (screen_of l).rows
    (λ row column is_row is_column. inline-style l row column inline low (rw (sym high) is_row) is_column)
    ∙ ap (λ (rows : List (List Cell)). picture (window_style_at l) (record { width = columns_of l.kind; rows = rows; counts = no_counts })) (inline-window l.kind l.session inline)
