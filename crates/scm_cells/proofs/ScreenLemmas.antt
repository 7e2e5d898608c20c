-- The rows of a grid, where one of them or all are written.
use Rattle.std.proofs.Common.{◌≡◌, ℕ, zero, suc, ◌+◌, ◌<◌, ◌≤◌, ◌^◌, List, [], ◌∷◌, ◌++◌, length, take, get_or, set, replicate, refl, sym, ap, subst, ◌∙◌, arith, append-nil, length-set}
use Rattle.std.specs.Prelude.{Vec}
use Rattle.std.specs.List.{All, flat_map}
use Rattle.std.specs.Vec.{with_items}
use Rattle.std.proofs.lemmas.List.{with_items_is, get_or_default, take_more}
use Rattle.std.proofs.lemmas.List.Concat.{flat_map-append}
use Rattle.std.proofs.lemmas.List.Elements.{All-head, All-tail, All-replicate, All-set}
use Rattle.scm_cells.specs.Cell.{Cell, blank}
use Rattle.scm_cells.specs.Counts.{Counts, no_counts}
use Rattle.scm_cells.specs.Row.{IsWhole, row_text}
use Rattle.scm_cells.specs.Screen.{Screen, IsScreen, blank_screen}
use Rattle.scm_cells.proofs.WholeLemmas.{IsWhole-blanks}
use Rattle.scm_cells.proofs.MapFrom.{map_from, so_far, so_far-all}

-- ---- every row is cleared

abbrev pub cleared_row : ℕ → List Cell → List Cell
cleared_row i row = replicate (length row) blank

all-cleared : (width i : ℕ) (rows : List (List Cell)) → All (λ row. length row ≡ width) rows → map_from cleared_row i rows ≡ replicate (length rows) (replicate width blank)
all-cleared width i [] h = refl
all-cleared width i (row ∷ rows) h =
    ap (λ n. replicate n blank ∷ map_from cleared_row (suc i) rows) (All-head (λ (r : List Cell). length r ≡ width) row rows h)
    ∙ ap (λ t. replicate width blank ∷ t) (all-cleared width (suc i) rows (All-tail (λ (r : List Cell). length r ≡ width) row rows h))

-- after the loop the grid is one of spaces
pub screen-cleared : {k : Counts} (items init old final : List (List Cell)) (i width : ℕ) → init ≡ old → final ≡ items → length init ≤ i → IsScreen (record { width = width; rows = old; counts = k })
    → items ≡ so_far cleared_row init i → ◌≡◌ {A = Screen} (record { width = width; rows = final; counts = no_counts }) (blank_screen width (length old))
screen-cleared items init old final i width was same le h inv =
    ap (λ rows. record { width = width; rows = rows; counts = no_counts }) (same ∙ inv ∙ so_far-all cleared_row init i le ∙ ap (map_from cleared_row 0) was ∙ all-cleared width 0 old h.columns)

length-blanks : (n : ℕ) → length (replicate n blank) ≡ n
length-blanks zero = refl
length-blanks (suc n) = ap suc (length-blanks n)

length-rows : (n : ℕ) (row : List Cell) → length (replicate n row) ≡ n
length-rows zero row = refl
length-rows (suc n) row = ap suc (length-rows n row)

pub IsScreen-blank : (width height : ℕ) → width < 2 ^ 16 → height < 2 ^ 16 → IsScreen (blank_screen width height)
IsScreen-blank width height w h = record {
  columns = All-replicate (λ (r : List Cell). length r ≡ width) height (replicate width blank) (length-blanks width);
  symbols = All-replicate IsWhole height (replicate width blank) (IsWhole-blanks width);
  width = w;
  height = let e = length-rows height (replicate width blank) in omega arith;
}

pub IsScreen-same : (a b : Screen) → a ≡ b → IsScreen b → IsScreen a
IsScreen-same a b e h = subst IsScreen (sym e) h

-- ---- one row is written

pub length-with_items : {Z : Type 0} (v : Vec Cell Z) (new : List Cell) (width : ℕ) → length new ≡ v.len → length new ≡ width → length (with_items v new).items ≡ width
length-with_items v new width size e = ap length (with_items_is v new size) ∙ e

-- the row that was read
pub row-read : (rows : List (List Cell)) (i : ℕ) (row : List Cell) → i < length rows → row ≡ get_or rows i row → row ≡ get_or rows i []
row-read rows i row h e = e ∙ get_or_default rows i row [] h

-- the row's columns are the grid's
pub length-read : {k : Counts} (rows : List (List Cell)) (i width : ℕ) (row : List Cell) → i < length rows → row ≡ get_or rows i row
    → IsScreen (record { width = width; rows = rows; counts = k }) → length row ≡ width
length-read rows i width row h e screen = ap length (row-read rows i row h e) ∙ screen.columns i [] h

-- and of whole symbols
pub whole-read : {k : Counts} (rows : List (List Cell)) (i width : ℕ) (row : List Cell) → i < length rows → row ≡ get_or rows i row
    → IsScreen (record { width = width; rows = rows; counts = k }) → IsWhole row
whole-read rows i width row h e screen = subst IsWhole (sym (row-read rows i row h e)) (screen.symbols i [] h)

pub IsScreen-set : (s : Screen) (i : ℕ) (row : List Cell) → IsScreen s → length row ≡ s.width → IsWhole row → IsScreen (record s { rows = set s.rows i row })
IsScreen-set s i row h e whole = record {
  columns = All-set (λ (r : List Cell). length r ≡ s.width) s.rows i row e h.columns;
  symbols = All-set IsWhole s.rows i row whole h.symbols;
  width = h.width;
  height = let size = length-set s.rows i row in let high = h.height in omega arith;
}

set-same : (rows : List (List Cell)) (i : ℕ) → set rows i (get_or rows i []) ≡ rows
set-same [] i = refl
set-same (r ∷ rs) zero = refl
set-same (r ∷ rs) (suc i) = ap (λ t. r ∷ t) (set-same rs i)

pub rows-unchanged : (rows : List (List Cell)) (i : ℕ) (row : List Cell) → row ≡ get_or rows i [] → set rows i row ≡ rows
rows-unchanged rows i row e = ap (set rows i) e ∙ set-same rows i

-- ---- the rows as text

pub view-more : (rows : List (List Cell)) (i : ℕ) (d : List Cell) (text new : List ℕ) (cols : List Cell) → i < length rows → text ≡ flat_map row_text (take i rows)
    → cols ≡ get_or rows i d → new ≡ text ++ row_text cols → new ≡ flat_map row_text (take (i + 1) rows)
view-more rows i d text new cols h inv same e =
    let more : flat_map row_text (take (i + 1) rows) ≡ flat_map row_text (take i rows) ++ row_text (get_or rows i d) =
    ap (flat_map row_text) (take_more rows i d h) ∙ flat_map-append row_text (take i rows) (get_or rows i d ∷ [])
    ∙ ap (λ t. flat_map row_text (take i rows) ++ t) (append-nil (row_text (get_or rows i d))) in
    e ∙ ap (λ t. t ++ row_text cols) inv ∙ ap (λ t. flat_map row_text (take i rows) ++ row_text t) same ∙ sym more
