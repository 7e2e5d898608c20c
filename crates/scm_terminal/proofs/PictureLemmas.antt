-- What a row of a grid shows: whole symbols, each in the style of its first column.
use Rattle.std.proofs.Common.{◌≡◌, ℕ, zero, suc, ◌+◌, ◌-◌, ◌<◌, ◌==◌, Bool, false, List, [], ◌∷◌, ◌++◌, length, get_or, map, replicate, refl, sym, ap, ap₂, ◌∙◌, arith, Option, Some, None}
use Rattle.std.specs.Prelude.{if◌then◌else◌}
use Rattle.std.specs.List.{flat_map, range_with_len, slice_get}
use Rattle.std.specs.Option.{option_and_then}
use Rattle.std.proofs.lemmas.Bool.Decides.{nat_tests}
use Rattle.scm_cells.specs.Cell.{Cell}
use Rattle.scm_cells.specs.Cluster.{Cluster}
use Rattle.scm_cells.specs.Row.{cells_of, later_cells}
use Rattle.scm_cells.specs.Screen.{Screen}
use Rattle.scm_cells.specs.Symbols.{symbol_of, symbol_in, symbol_at}
use Rattle.scm_cells.specs.declared.style.Style.{Style}
use Rattle.scm_terminal.specs.StyledCell.{StyledCell, First, Later, cell_of, laters, cell_at, styled_row}

-- cells from a column on, in the styles of their columns
abbrev pub styled_from : (ℕ → Style) → ℕ → List Cell → List StyledCell
styled_from style column [] = []
styled_from style column (cell ∷ cells) = cell_of (symbol_of cell) (style column) ∷ styled_from style (column + 1) cells

pub length-styled : (style : ℕ → Style) (column : ℕ) (cells : List Cell) → length (styled_from style column cells) ≡ length cells
length-styled style column [] = refl
length-styled style column (cell ∷ cells) = ap suc (length-styled style (column + 1) cells)

-- ---- a row of a grid is its cells in styles

cell-read : (cells : List Cell) (k : ℕ) (cell : Cell) → slice_get cells k ≡ Some cell → symbol_in cells k ≡ symbol_of cell
cell-read cells k cell e = ap (option_and_then symbol_of) e

range-styled : (symbol : ℕ → Option (List ℕ)) (style : ℕ → Style) (cells : List Cell) (column : ℕ)
    → ((i j : ℕ) → i < length cells → column + i ≡ j → symbol j ≡ symbol_in cells i)
    → map (λ k. cell_of (symbol k) (style k)) (range_with_len column (length cells)) ≡ styled_from style column cells
range-styled symbol style [] column h = refl
range-styled symbol style (cell ∷ cells) column h =
    ap₂ (λ (o : Option (List ℕ)) (ps : List StyledCell). cell_of o (style column) ∷ ps) (h 0 column (omega arith) (omega arith))
    (range-styled symbol style cells (column + 1) (λ i j below e. h (suc i) j (omega arith) (omega arith)))

row-got : {X : Type 0} (rows : List X) (row : ℕ) (d : X) → row < length rows → slice_get rows row ≡ Some (get_or rows row d)
row-got [] row d h = absurd (omega arith)
row-got (x ∷ xs) zero d h = refl
row-got (x ∷ xs) (suc row) d h = row-got xs row d (omega arith)

-- a cell that shows the symbol of a column shows what is read there
pub shows-read : (columns : List Cell) (i : ℕ) (column : Cell) (cell : StyledCell) (style : Style) → i < length columns → column ≡ get_or columns i column
    → cell ≡ cell_of (symbol_of column) style → cell ≡ cell_of (symbol_in columns i) style
shows-read columns i column cell style h read shows =
    shows ∙ ap (λ (o : Option (List ℕ)). cell_of o style) (sym (cell-read columns i column (row-got columns i column h ∙ ap (λ (c : Cell). Some c) (sym read))))

pub styled-row : (style : ℕ → ℕ → Style) (grid : Screen) (row : ℕ) → row < length grid.rows → length (get_or grid.rows row []) ≡ grid.width
    → styled_row style grid row ≡ styled_from (style row) 0 (get_or grid.rows row [])
styled-row style grid row h size =
    let cells = get_or grid.rows row [] in
    ap (λ n. map (cell_at style grid row) (range_with_len 0 n)) (sym size)
    ∙ range-styled (λ k. symbol_at grid.rows row k) (style row) cells 0
    (λ i j below e. let same : j ≡ i = omega arith in ap (λ (o : Option (List Cell)). option_and_then (λ (cs : List Cell). symbol_in cs j) o) (row-got grid.rows row [] h) ∙ ap (symbol_in cells) same)

-- ---- symbols as cells

styled-later : (style : ℕ → Style) (column width offset k : ℕ) (cells : List Cell) → 0 < offset
    → styled_from style column (later_cells width offset k ++ cells) ≡ replicate k Later ++ styled_from style (column + k) cells
unfolding later_cells
styled-later style column width offset zero cells h = let e : column + 0 ≡ column = omega arith in ap (λ n. styled_from style n cells) (sym e)
styled-later style column width offset (suc k) cells h =
    let not : (offset == 0) ≡ false = grind (arith, nat_tests) in
    let e : column + 1 + k ≡ column + suc k = omega arith in
    let more = styled-later style (column + 1) width (offset + 1) k cells (omega arith) in
    ap₂ (λ (b : Bool) (ps : List StyledCell). cell_of (if b then Some [] else None) (style column) ∷ ps) not (more ∙ ap (λ n. replicate k Later ++ styled_from style n cells) e)

pub styled-cells : (style : ℕ → Style) (column : ℕ) (c : Cluster) (cells : List Cell)
    → styled_from style column (cells_of c ++ cells) ≡ First c.0 (style column) ∷ (replicate (c.1 - 1) Later ++ styled_from style (column + 1 + (c.1 - 1)) cells)
unfolding cells_of
styled-cells style column c cells = ap (λ ps. First c.0 (style column) ∷ ps) (styled-later style (column + 1) c.1 1 (c.1 - 1) cells (omega arith))

pub laters-styled : (style : ℕ → Style) (column : ℕ) (cs : List Cluster) → laters (styled_from style column (flat_map cells_of cs)) ≡ 0
unfolding cells_of
laters-styled style column [] = refl
laters-styled style column (c ∷ cs) = refl

pub laters-more : (k : ℕ) (ps : List StyledCell) → laters ps ≡ 0 → laters (replicate k Later ++ ps) ≡ k
laters-more zero ps e = e
laters-more (suc k) ps e = ap suc (laters-more k ps e)
