-- Lists of cells that grow: place by place, and row by row.
use Rattle.std.proofs.Common.{◌≡◌, ℕ, zero, suc, ◌+◌, ◌-◌, ◌<◌, ◌≤◌, true, List, [], ◌∷◌, ◌++◌, map, length, get_or, Option, Some, None, refl, sym, ap, ap₂, ◌∙◌, arith, string_bytes}
use Rattle.std.specs.Prelude.{if◌then◌else◌, is_some}
use Rattle.std.specs.List.{range_with_len}
use Rattle.std.proofs.lemmas.List.{append-nil, append_assoc, length-append}
use Rattle.scm_cells.specs.Screen.{Screen}
use Rattle.scm_cells.specs.Symbols.{symbol_at}
use Rattle.scm_cells.specs.declared.style.Style.{Style}
use Rattle.scm_terminal.specs.Style.{plain_style}
use Rattle.scm_terminal.specs.StyledCell.{StyledCell, cell_in, cell_of, laters}
use Rattle.scm_shown_cells.specs.declared.cell.Cell.{Cell}
use Rattle.scm_shown_cells.specs.declared.cell_list.CellList.{CellList}
use Rattle.scm_shown_cells.specs.Cells.{Adds, AddsCell, AddsRows, AreOf, bytes_at, laters_from, record_of, records_of, records_of_rows, text_of, text_of_rows}

-- ---- places of a row from a column on

-- the places from `k` on begin with that of `k`
pub one-more : {X : Type 0} (f : ℕ → X) (k n : ℕ) → k < n → map f (range_with_len k (n - k)) ≡ f k ∷ map f (range_with_len (k + 1) (n - (k + 1)))
one-more f k n h = ap (λ (m : ℕ). map f (range_with_len k m)) (let e : n - k ≡ suc (n - (k + 1)) = omega arith in e)

-- behind the last place there is none
pub no-more : {X : Type 0} (f : ℕ → X) (k n : ℕ) → n ≤ k → map f (range_with_len k (n - k)) ≡ []
no-more f k n h = ap (λ (m : ℕ). map f (range_with_len k m)) (let e : n - k ≡ 0 = omega arith in e)

-- ---- later columns

pub none-here : (symbol : ℕ → Option (List ℕ)) (k n : ℕ) → k < n → symbol k ≡ None → laters_from symbol k (n - k) ≡ suc (laters_from symbol (k + 1) (n - (k + 1)))
none-here symbol k n h e =
    ap (λ (m : ℕ). laters_from symbol k m) (let more : n - k ≡ suc (n - (k + 1)) = omega arith in more)
    ∙ ap (λ (o : Option (List ℕ)). if is_some o then 0 else suc (laters_from symbol (k + 1) (n - (k + 1)))) e

pub some-here : (symbol : ℕ → Option (List ℕ)) (k n : ℕ) (text : List ℕ) → k < n → symbol k ≡ Some text → laters_from symbol k (n - k) ≡ 0
some-here symbol k n text h e =
    ap (λ (m : ℕ). laters_from symbol k m) (let more : n - k ≡ suc (n - (k + 1)) = omega arith in more)
    ∙ ap (λ (o : Option (List ℕ)). if is_some o then 0 else suc (laters_from symbol (k + 1) (n - (k + 1)))) e

pub none-behind : (symbol : ℕ → Option (List ℕ)) (k n : ℕ) → n ≤ k → laters_from symbol k (n - k) ≡ 0
none-behind symbol k n h = ap (λ (m : ℕ). laters_from symbol k m) (let none : n - k ≡ 0 = omega arith in none)

laters-more : (o : Option (List ℕ)) (style : Style) (rest : List StyledCell) (n : ℕ) → laters rest ≡ n → laters (cell_of o style ∷ rest) ≡ (if is_some o then 0 else suc n)
laters-more None style rest n e = ap suc e
laters-more (Some symbol) style rest n e = refl

-- those of the cells are those of the symbols
pub laters-are : (styles : List Style) (grid : Screen) (row k n : ℕ) → laters (map (cell_in styles grid row) (range_with_len k n)) ≡ laters_from (symbol_at grid.rows row) k n
laters-are styles grid row k zero = refl
laters-are styles grid row k (suc n) =
    laters-more (symbol_at grid.rows row k) (get_or styles k plain_style) (map (cell_in styles grid row) (range_with_len (k + 1) n)) _ (laters-are styles grid row (k + 1) n)

-- ---- one place more

cells-more : (done next : List Cell) (n m k : ℕ) (cell : StyledCell) (rest : List StyledCell) → k ≡ laters rest → next ≡ done ++ record_of n cell k ∷ [] → m ≡ n + length (bytes_at cell)
    → next ++ records_of m rest ≡ done ++ records_of n (cell ∷ rest)
cells-more done next n m k cell rest e f g =
    ap₂ (λ (cells : List Cell) (i : ℕ). cells ++ records_of i rest) f g
    ∙ append_assoc done (record_of n cell k ∷ []) (records_of (n + length (bytes_at cell)) rest)
    ∙ ap (λ (j : ℕ). done ++ record_of n cell j ∷ records_of (n + length (bytes_at cell)) rest) e

text-more : (done next : List ℕ) (cell : StyledCell) (rest : List StyledCell) → next ≡ done ++ bytes_at cell → next ++ text_of rest ≡ done ++ text_of (cell ∷ rest)
text-more done next cell rest f = ap (λ (text : List ℕ). text ++ text_of rest) f ∙ append_assoc done (bytes_at cell) (text_of rest)

-- what is left of a row, where the list `old` becomes `now`
pub record Left (row rest : List StyledCell) (old now : CellList) : Type 0 where
  pub cells : now.cells.items ++ records_of (length (string_bytes now.text)) rest ≡ old.cells.items ++ records_of (length (string_bytes old.text)) row
  pub text : string_bytes now.text ++ text_of rest ≡ string_bytes old.text ++ text_of row

long : (done next more : List ℕ) → next ≡ done ++ more → length next ≡ length done + length more
long done next more e = ap length e ∙ length-append done more

pub left-more : (row left rest : List StyledCell) (cell : StyledCell) (k : ℕ) (old now next : CellList) → left ≡ cell ∷ rest → k ≡ laters rest → AddsCell cell k now next → Left row left old now → Left row rest old next
left-more row left rest cell k old now next e f adds held = record {
  cells =
      cells-more now.cells.items next.cells.items (length (string_bytes now.text)) (length (string_bytes next.text)) k cell rest f adds.cells
      (long (string_bytes now.text) (string_bytes next.text) (bytes_at cell) adds.text)
      ∙ ap (λ (cells : List StyledCell). now.cells.items ++ records_of (length (string_bytes now.text)) cells) (sym e) ∙ held.cells;
  text =
      text-more (string_bytes now.text) (string_bytes next.text) cell rest adds.text
      ∙ ap (λ (cells : List StyledCell). string_bytes now.text ++ text_of cells) (sym e) ∙ held.text;
}

pub left-none : (row rest : List StyledCell) (old now : CellList) → rest ≡ [] → Left row rest old now → Adds row old now
left-none row rest old now e held = record {
  cells =
      sym (append-nil now.cells.items) ∙ ap (λ (cells : List StyledCell). now.cells.items ++ records_of (length (string_bytes now.text)) cells) (sym e) ∙ held.cells;
  text = sym (append-nil (string_bytes now.text)) ∙ ap (λ (cells : List StyledCell). string_bytes now.text ++ text_of cells) (sym e) ∙ held.text;
}

-- the same cells under another name
pub adds-as : (row other : List StyledCell) (old new : CellList) → row ≡ other → Adds row old new → Adds other old new
adds-as row other old new e adds = record {
  cells = adds.cells ∙ ap (λ (cells : List StyledCell). old.cells.items ++ records_of (length (string_bytes old.text)) cells) e;
  text = adds.text ∙ ap (λ (cells : List StyledCell). string_bytes old.text ++ text_of cells) e;
}

-- ---- one row more

rows-cells-more : (done next : List Cell) (n m : ℕ) (row : List StyledCell) (rest : List (List StyledCell)) → next ≡ done ++ records_of n row → m ≡ n + length (text_of row)
    → next ++ records_of_rows m rest ≡ done ++ records_of_rows n (row ∷ rest)
rows-cells-more done next n m row rest f g =
    ap₂ (λ (cells : List Cell) (i : ℕ). cells ++ records_of_rows i rest) f g
    ∙ append_assoc done (records_of n row) (records_of_rows (n + length (text_of row)) rest)

rows-text-more : (done next : List ℕ) (row : List StyledCell) (rest : List (List StyledCell)) → next ≡ done ++ text_of row → next ++ text_of_rows rest ≡ done ++ text_of_rows (row ∷ rest)
rows-text-more done next row rest f = ap (λ (text : List ℕ). text ++ text_of_rows rest) f ∙ append_assoc done (text_of row) (text_of_rows rest)

-- what is left of a picture, where the list `old` becomes `now`
pub record LeftRows (rows rest : List (List StyledCell)) (old now : CellList) : Type 0 where
  pub cells :
      now.cells.items ++ records_of_rows (length (string_bytes now.text)) rest ≡ old.cells.items ++ records_of_rows (length (string_bytes old.text)) rows
  pub text : string_bytes now.text ++ text_of_rows rest ≡ string_bytes old.text ++ text_of_rows rows

pub rows-more : (rows left rest : List (List StyledCell)) (row : List StyledCell) (old now next : CellList) → left ≡ row ∷ rest → Adds row now next → LeftRows rows left old now → LeftRows rows rest old next
rows-more rows left rest row old now next e adds held = record {
  cells =
      rows-cells-more now.cells.items next.cells.items (length (string_bytes now.text)) (length (string_bytes next.text)) row rest adds.cells
      (long (string_bytes now.text) (string_bytes next.text) (text_of row) adds.text)
      ∙ ap (λ (list : List (List StyledCell)). now.cells.items ++ records_of_rows (length (string_bytes now.text)) list) (sym e) ∙ held.cells;
  text =
      rows-text-more (string_bytes now.text) (string_bytes next.text) row rest adds.text
      ∙ ap (λ (list : List (List StyledCell)). string_bytes now.text ++ text_of_rows list) (sym e) ∙ held.text;
}

pub rows-none : (rows rest : List (List StyledCell)) (old now : CellList) → rest ≡ [] → LeftRows rows rest old now → AddsRows rows old now
rows-none rows rest old now e held = record {
  cells =
      sym (append-nil now.cells.items) ∙ ap (λ (list : List (List StyledCell)). now.cells.items ++ records_of_rows (length (string_bytes now.text)) list) (sym e) ∙ held.cells;
  text = sym (append-nil (string_bytes now.text)) ∙ ap (λ (list : List (List StyledCell)). string_bytes now.text ++ text_of_rows list) (sym e) ∙ held.text;
}

-- rows, and one row behind them, are the rows of both
records-append : (n : ℕ) (rows : List (List StyledCell)) (row : List StyledCell) → records_of_rows n (rows ++ row ∷ []) ≡ records_of_rows n rows ++ records_of (n + length (text_of_rows rows)) row
records-append n [] row = append-nil (records_of n row) ∙ ap (λ (m : ℕ). records_of m row) (let e : n ≡ n + 0 = omega arith in e)
records-append n (first ∷ rows) row =
    ap (λ (cells : List Cell). records_of n first ++ cells) (records-append (n + length (text_of first)) rows row)
    ∙ sym (append_assoc (records_of n first) (records_of_rows (n + length (text_of first)) rows) _)
    ∙ ap (λ (m : ℕ). (records_of n first ++ records_of_rows (n + length (text_of first)) rows) ++ records_of m row)
    (let size = length-append (text_of first) (text_of_rows rows) in
    let e : n + length (text_of first) + length (text_of_rows rows) ≡ n + length (text_of first ++ text_of_rows rows) = omega arith in e)

text-append : (rows : List (List StyledCell)) (row : List StyledCell) → text_of_rows (rows ++ row ∷ []) ≡ text_of_rows rows ++ text_of row
text-append [] row = append-nil (text_of row)
text-append (first ∷ rows) row = ap (λ (text : List ℕ). text_of first ++ text) (text-append rows row) ∙ sym (append_assoc (text_of first) (text_of_rows rows) (text_of row))

pub last-row : (rows : List (List StyledCell)) (row : List StyledCell) (old now new : CellList) → AddsRows rows old now → Adds row now new → AddsRows (rows ++ row ∷ []) old new
last-row rows row old now new above last = record {
  cells =
      last.cells
      ∙ ap₂ (λ (cells : List Cell) (m : ℕ). cells ++ records_of m row) above.cells (long (string_bytes old.text) (string_bytes now.text) (text_of_rows rows) above.text)
      ∙ append_assoc old.cells.items (records_of_rows (length (string_bytes old.text)) rows) _
      ∙ ap (λ (cells : List Cell). old.cells.items ++ cells) (sym (records-append (length (string_bytes old.text)) rows row));
  text =
      last.text ∙ ap (λ (text : List ℕ). text ++ text_of row) above.text
      ∙ append_assoc (string_bytes old.text) (text_of_rows rows) (text_of row)
      ∙ ap (λ (text : List ℕ). string_bytes old.text ++ text) (sym (text-append rows row));
}

-- the same rows under another name
pub rows-as : (rows other : List (List StyledCell)) (old new : CellList) → rows ≡ other → AddsRows rows old new → AddsRows other old new
rows-as rows other old new e adds = record {
  cells = adds.cells ∙ ap (λ (list : List (List StyledCell)). old.cells.items ++ records_of_rows (length (string_bytes old.text)) list) e;
  text = adds.text ∙ ap (λ (list : List (List StyledCell)). string_bytes old.text ++ text_of_rows list) e;
}

-- rows that are added to a list without cells
pub are-of : (rows : List (List StyledCell)) (old new : CellList) → old.cells.items ≡ [] → string_bytes old.text ≡ [] → AddsRows rows old new → AreOf rows new
are-of rows old new e f adds = record {
  cells = adds.cells ∙ ap₂ (λ (cells : List Cell) (text : List ℕ). cells ++ records_of_rows (length text) rows) e f;
  text = adds.text ∙ ap (λ (text : List ℕ). text ++ text_of_rows rows) f;
}
